pub mod Audit
pub mod Auditor
pub mod Cuts
pub mod Examples
pub mod Exchanges
pub mod Trees
