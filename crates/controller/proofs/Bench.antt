-- The bench values P1 to P10, one list and one theorem over the definitions. Assumes nothing.
use mathlib.Core.Path.{refl}
use Rattle.terms.specs.Bench.{Hold}
use Rattle.table.specs.Line.{byte_of, length_of, address_of, flags_of}
use Rattle.table.specs.Fetch.{fetch_of}
use Rattle.table.specs.Trace.{onward, along, trace_of, total}
use Rattle.registers.specs.Place.{words, find, word_at, place_of, cut_of}
use Rattle.registers.specs.Access.{shown_of}
use Rattle.controller.specs.Bench.{paper_rows}

-- "Bench values (P: proved)": "P1 to P10 are one list and one theorem over the definitions"
pub paper_holds : Hold paper_rows
unfolding byte_of length_of address_of flags_of fetch_of onward along trace_of total words find word_at place_of cut_of shown_of
paper_holds = refl
