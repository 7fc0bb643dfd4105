-- "Output: `steps` and their count; then per step its number from 0, answer, value in 8 hex capitals, line." Assumes nothing: these are definitions.
use Rattle.std.specs.Prelude.{ℕ, ◌+◌, ◌/◌, ◌%◌, List, [], ◌∷◌, ◌++◌, Bool, true, false, cond, length, ltb}
use Rattle.std.proofs.Math.Seq.{paste}

-- the digit of a number below 10
abbrev pub digit : ℕ → ℕ
digit n = 48 + n

-- a number below 1,000 in decimal, without padding
abbrev pub decimal : ℕ → List ℕ
decimal n =
    cond (ltb n 10) (digit n ∷ [])
    (cond (ltb n 100) (digit (n / 10) ∷ digit (n % 10) ∷ []) (digit (n / 100) ∷ digit (n / 10 % 10) ∷ digit (n % 10) ∷ []))

-- one hex digit, in capitals
abbrev pub nibble : ℕ → ℕ
nibble n = cond (ltb n 10) (48 + n) (55 + n)

-- "value in 8 hex capitals"
abbrev pub hex_eight : ℕ → List ℕ
hex_eight n =
    nibble (n / 0x10000000 % 16)
    ∷ nibble (n / 0x1000000 % 16)
    ∷ nibble (n / 0x100000 % 16)
    ∷ nibble (n / 0x10000 % 16)
    ∷ nibble (n / 0x1000 % 16)
    ∷ nibble (n / 0x100 % 16)
    ∷ nibble (n / 0x10 % 16)
    ∷ nibble (n % 16)
    ∷ []

abbrev pub line_digit : Bool → ℕ
line_digit true = 49
line_digit false = 48

-- `bad file` and a newline
abbrev pub bad_text : List ℕ
bad_text = 98 ∷ 97 ∷ 100 ∷ 32 ∷ 102 ∷ 105 ∷ 108 ∷ 101 ∷ 10 ∷ []

-- `steps`, their count and a newline
abbrev pub head_text : ℕ → List ℕ
head_text n = (115 ∷ 116 ∷ 101 ∷ 112 ∷ 115 ∷ 32 ∷ []) ++ (decimal n ++ (10 ∷ []))

-- value and line, each behind a space, and a newline
unfoldable pub rest_text : ℕ → Bool → List ℕ
rest_text value line = 32 ∷ (hex_eight value ++ (32 ∷ line_digit line ∷ 10 ∷ []))

-- number, answer, value, line and a newline
unfoldable pub line_text : ℕ → ℕ → ℕ → Bool → List ℕ
line_text number answer value line = decimal number ++ (32 ∷ (decimal answer ++ rest_text value line))

-- a text put into a room from a place on: the place behind it, and the room
abbrev pub put_of : List ℕ → ℕ → List ℕ → ℕ × List ℕ
put_of out at text = (at + length text, paste out at text (length text))
