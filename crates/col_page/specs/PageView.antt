-- What a page tells.
use Rattle.std.specs.Prelude.{ℕ, Bool, List}

-- a page's text, and whether some line of it is an error line
pub record PageView : Type 0 where
  pub text : List ℕ
  pub has_error : Bool
