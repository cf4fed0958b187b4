pub mod Lists
pub mod Taking
