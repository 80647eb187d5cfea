mod Keeping
mod Looked
mod MovingOn
mod Searching
mod Turning
mod Recent
