pub mod HostCalls
