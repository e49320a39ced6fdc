-- Laws of the definitions. Nothing here needs to be believed: it is proved.
pub mod Behind
pub mod Goes
pub mod Steps
pub mod Rests
pub mod View
pub mod Asks
pub mod Runs
pub mod Counts
pub mod Begins
pub mod Resets
pub mod Start
