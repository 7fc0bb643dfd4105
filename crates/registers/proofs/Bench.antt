-- The bench values of this crate hold of the definitions. Assumes nothing.
use mathlib.Core.Path.{refl}
use Rattle.terms.specs.Bench.{Hold}
use Rattle.registers.specs.Bits.{bit_of, without, put}
use Rattle.registers.specs.Place.{words, find, word_at, place_of, ones_of, cut_of, lanes_of, placed_of, target_of}
use Rattle.registers.specs.Interrupt.{shown_status, line_of}
use Rattle.registers.specs.Word.{stays}
use Rattle.registers.specs.Reset.{reset_with}
use Rattle.registers.specs.Access.{shown_of, take_from, take_of}
use Rattle.registers.specs.Bench.{register_rows}

-- the worked example's 024h, the constants, and what single registers read back
pub registers_hold : Hold register_rows
unfolding bit_of without put words find word_at place_of ones_of cut_of lanes_of placed_of target_of shown_status line_of stays reset_with shown_of take_from take_of
registers_hold = refl
