-- Which word, and which bytes of it, an offset and a width name; the bits that a value sets there. Assumes nothing: these are definitions.
use Rattle.std.specs.Prelude.{ℕ, ◌+◌, ◌-◌, ◌*◌, ◌/◌, ◌%◌, ◌^◌, List, [], ◌∷◌, Bool, cond, ◌&&◌, ◌||◌, eqb, leb, ltb, Option, Some, None}
use Rattle.registers.specs.declared.place.Taker.TheVariants.{System, Block, Argument, Order, Host, Clock, Status, Enabled, Signal, Force, Low, High}
use Rattle.registers.specs.declared.place.Teller.TheVariants.{First, Second, Third, Fourth, Present, Ability, Fault, Version, Nothing}
use Rattle.registers.specs.declared.place.Word.{Word}
use Rattle.registers.specs.declared.place.Word.TheVariants.{Takes, Tells}
use Rattle.registers.specs.declared.place.Edit.{Edit}
use Rattle.registers.specs.declared.place.Target.{Target}

-- the words that are carried, each by its offset
unfoldable pub words : List (ℕ × Word)
words =
    (0x000, Takes System)
    ∷ (0x004, Takes Block)
    ∷ (0x008, Takes Argument)
    ∷ (0x00C, Takes Order)
    ∷ (0x010, Tells First)
    ∷ (0x014, Tells Second)
    ∷ (0x018, Tells Third)
    ∷ (0x01C, Tells Fourth)
    ∷ (0x024, Tells Present)
    ∷ (0x028, Takes Host)
    ∷ (0x02C, Takes Clock)
    ∷ (0x030, Takes Status)
    ∷ (0x034, Takes Enabled)
    ∷ (0x038, Takes Signal)
    ∷ (0x040, Tells Ability)
    ∷ (0x050, Takes Force)
    ∷ (0x054, Tells Fault)
    ∷ (0x058, Takes Low)
    ∷ (0x05C, Takes High)
    ∷ (0x0FC, Tells Version)
    ∷ []

unfoldable pub find : ℕ → List (ℕ × Word) → Word
find base [] = Tells Nothing
find base (entry ∷ rest) = cond (eqb base entry.0) entry.1 (find base rest)

-- the word at an offset that is a multiple of 4; an "uncarried offset" is `Nothing`
unfoldable pub word_at : ℕ → Word
word_at base = find base words

-- "width not 1, 2 or 4": one of these
abbrev pub legal : ℕ → Bool
legal width = eqb width 1 || eqb width 2 || eqb width 4

-- "offset + width over 256"
abbrev pub limit : ℕ
limit = 256

-- bytes `lane` to `lane + width - 1` of a word
pub record Place : Type 0 where
  pub word : Word
  pub lane : ℕ
  pub width : ℕ

-- "width not 1, 2 or 4; offset not a multiple of the width; offset + width over 256": no place
unfoldable pub place_of : ℕ → ℕ → Option Place
place_of offset width =
    cond (legal width)
    (cond (eqb (offset % width) 0)
    (cond (leb (offset + width) limit) (Some (record { word = word_at (offset / 4 * 4); lane = offset % 4; width = width })) None) None)
    None

-- "value too big for the width": one that is not
abbrev pub fits_of : ℕ → ℕ → Bool
fits_of width value = ltb value (2 ^ (8 * width))

-- so many bytes of ones
unfoldable pub ones_of : ℕ → ℕ
ones_of width = 2 ^ (8 * width) - 1

-- "Little-endian": so many bytes from a lane on, as a number
unfoldable pub cut_of : ℕ → ℕ → ℕ → ℕ
cut_of word lane width = word / 2 ^ (8 * lane) % 2 ^ (8 * width)

-- the bits of the bytes that a write reaches
unfoldable pub lanes_of : ℕ → ℕ → ℕ
lanes_of lane width = ones_of width * 2 ^ (8 * lane)

-- the bits that it sets there
unfoldable pub placed_of : ℕ → ℕ → ℕ
placed_of lane value = value * 2 ^ (8 * lane)

abbrev pub edit_of : ℕ → ℕ → ℕ → Edit
edit_of lane width value = record { lanes = lanes_of lane width; bits = placed_of lane value }

-- a value at a place
abbrev pub aimed : ℕ → Option Place → Option Target
aimed value None = None
aimed value (Some p) = cond (fits_of p.width value) (Some (record { word = p.word; edit = edit_of p.lane p.width value })) None

-- what a write names
unfoldable pub target_of : ℕ → ℕ → ℕ → Option Target
target_of offset width value = aimed value (place_of offset width)

-- an access that lies "wholly inside" low to high
abbrev pub inside : ℕ → ℕ → ℕ → ℕ → Bool
inside low high offset width = leb low offset && leb (offset + width) (high + 1)

-- an access to whose bytes one belongs
abbrev pub touches : ℕ → ℕ → ℕ → Bool
touches byte offset width = leb offset byte && ltb byte (offset + width)

-- "write wholly inside 004h-007h or 00Ch-00Dh"
unfoldable pub guarded : ℕ → ℕ → Bool
guarded offset width = inside 0x004 0x007 offset width || inside 0x00C 0x00D offset width

-- "Byte 00Fh issues."
abbrev pub issues : ℕ → ℕ → Bool
issues offset width = touches 0x00F offset width
