-- "Bench values (P: proved)" are rows of lists: what the definitions give, and what the paper says. Assumes nothing: these are definitions.
use Rattle.std.specs.Prelude.{ℕ, ◌≡◌, List, map}

pub record Row : Type 0 where
  pub given : List ℕ
  pub said : List ℕ

-- every row gives what it says
abbrev pub Hold : List Row → Type 0
Hold rows = map (λ (r : Row). r.given) rows ≡ map (λ (r : Row). r.said) rows
