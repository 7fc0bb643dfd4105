-- The bench values P3 to P10: for each row the definitions give what the paper says. Assumes nothing.
use mathlib.Core.Path.{refl}
use Rattle.terms.specs.Bench.{Hold}
use Rattle.table.specs.Line.{byte_of, length_of, address_of, flags_of}
use Rattle.table.specs.Fetch.{fetch_of}
use Rattle.table.specs.Trace.{onward, along, trace_of, total}
use Rattle.table.specs.Bench.{bench_rows}

-- "Bench values (P: proved)"
pub bench_holds : Hold bench_rows
unfolding byte_of length_of address_of flags_of fetch_of onward along trace_of total
bench_holds = refl
