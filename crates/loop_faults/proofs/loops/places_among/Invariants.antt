use Rattle.std.proofs.Common.{◌≡◌, List, map, take}
use Rattle.std.specs.List.{flat_map}
use Rattle.doc_model.specs.declared.style.Style.{Style}
use Rattle.sheet_kept.specs.Held.{seen}
use Rattle.style_loops.specs.Told.{Tells}
use Rattle.loop_faults.specs.Looped.{looped_at}
use Rattle.loop_faults.proofs.loops.places_among.Given as goal

abbrev pub invariant-kept : goal.invariant-kept
invariant-kept l = (styles : List Style) → Tells l.loops styles → l.places.items ≡ flat_map (looped_at styles) (map seen (take l.one-index l.kept))
