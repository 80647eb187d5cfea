-- The theory of the exact answer: what the definitions of specs/ mean, for every number of departures at once.
pub mod Whole
pub mod OneShot
pub mod FirstColumn
pub mod Descent
pub mod Meeting
pub mod PowerSizes
pub mod Steps
pub mod PlainZones
pub mod Repeating
pub mod Wholly
pub mod Trying
pub mod ForCode
pub mod Judged
pub mod NeverFound
pub mod Meant
pub mod DecideHolds
