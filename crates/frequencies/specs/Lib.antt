-- What AF codes and lists mean.
pub mod Frequency
pub mod AfList
pub mod AfHistory
