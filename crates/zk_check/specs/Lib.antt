pub mod Checking
pub mod Rows
pub use Rattle.zk_failures.specs.Failure
pub use Rattle.zk_failures.specs.LineOf
pub use Rattle.zk_failures.specs.Lines
