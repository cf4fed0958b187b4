pub mod Decimal
pub mod Text
pub mod Printed
pub mod Examples
pub mod InnerContracts
