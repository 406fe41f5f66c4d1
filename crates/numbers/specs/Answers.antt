-- What a call answers, in document 01's terms: a value, or a refusal by the paper's number. Assumes nothing.
use Rattle.std.specs.Prelude.{ℕ}

pub data Outcome (A : Type 0) : Type 0 where
  gives : A → Outcome A
  refuses : ℕ → Outcome A

-- what was read from bytes at an offset, and the offset behind it
pub record Read (A : Type 0) : Type 0 where
  pub value : A
  pub end : ℕ
