-- What is asked and promised of those who look ahead.
pub mod Needs
pub mod Outlook
