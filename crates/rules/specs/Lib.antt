pub mod OnePeer
pub mod Told
pub mod Alone
