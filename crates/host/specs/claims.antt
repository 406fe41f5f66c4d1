-- What is claimed of the calls for hosts.
pub mod Calls
pub mod HostCalls
pub mod PlayCalls
pub mod HostDays
pub mod HostFill
pub mod HostFallingAgain
pub mod HostOwners
pub mod HostFullBook
pub mod HostSlidPrices
pub mod HostPauses
