pub use Rattle.zk_forms.specs.Answer
pub use Rattle.zk_forms.specs.CheckAnswer
pub use Rattle.zk_forms.specs.FeedAnswer
pub use Rattle.zk_forms.specs.Input
pub use Rattle.zk_forms.specs.Output
pub use Rattle.zk_forms.specs.SoakAnswer
pub use Rattle.zk_forms.specs.Top
