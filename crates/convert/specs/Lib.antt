-- How bounds are looked at for what is lost.
pub mod Looking
