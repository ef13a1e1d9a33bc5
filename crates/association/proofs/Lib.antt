pub mod AuthenticationRows
pub mod JoiningRows
pub mod LeavingRows
pub mod RequestRows
pub mod Bodies
pub mod Requests
pub mod RequestFrames
