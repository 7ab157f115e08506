pub mod Absent
pub mod Steps
pub mod SameLeft
pub mod Leads
