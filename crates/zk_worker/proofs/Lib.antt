pub mod DeclaredObjects
pub mod Lists
mod KeptAnswers
pub mod Moving
mod OneStep
pub mod PollMoves
pub mod CheckedSteps
pub mod Limits
pub mod Starts
pub mod PollSteps
pub mod FreeCalls
pub mod TableRanges
pub mod TableSetups
pub mod StageFits
pub mod Fits
pub mod FitsStill
pub mod Ranges
pub mod Families
pub mod Crossing
pub mod Between
pub mod ShownSteps
pub mod Looking
pub mod SignalWrites
pub mod Replied
pub mod PassedChecks
pub mod Following
pub mod Trying
