pub mod Places
pub mod StripBoards
pub mod DemandOneKept
pub mod DemandTwoKept
pub mod DemandThreeKept
