pub mod HostBalanced
