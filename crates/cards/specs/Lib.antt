pub use Rattle.direct_card.specs.Direct
pub use Rattle.delayed_card.specs.Delayed
pub use Rattle.trouble_layer.specs.Trouble
