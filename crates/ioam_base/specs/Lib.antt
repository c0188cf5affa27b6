pub mod Leads
pub mod Chain
pub mod Octets
pub mod Words
pub mod Decimal
pub mod Fed
