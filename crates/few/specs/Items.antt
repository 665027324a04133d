-- What a contract sees of a fixed list.
use Rattle.std.specs.Prelude.{List}

-- the values that were put in, in their order, and what lies in the places behind them
pub record Few (T : Type 0) : Type 0 where
  pub items : List T
  pub spare : List T
