use Rattle.std.proofs.Common.{◌≡◌, drop}
use Rattle.std.specs.List.{list_any}
use Rattle.load_model.specs.Left.{is_same_tag, tag_of}
use Rattle.sheet_kept.proofs.held.has_tag.Given as goal

abbrev pub invariant-parts : goal.invariant-parts
invariant-parts l = list_any (λ part. is_same_tag (tag_of part.now) l.tag) (drop l.part-index l.parts) ≡ list_any (λ part. is_same_tag (tag_of part.now) l.tag) l.parts
