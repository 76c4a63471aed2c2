use Rattle.std.proofs.Common.{List, ℕ, ◌++◌, ◌∙◌, ap, not, false}
use Rattle.std.specs.Option.{option_map_or}
use Rattle.load_model.specs.declared.names.Key.TheVariants as key
use Rattle.load_model.specs.declared.names.Tag.TheVariants as tag
use Rattle.load_model.specs.declared.offence.TreeOffenceKind.TheVariants as kind
use Rattle.load_model.specs.Left.{attributes_of, is}
use Rattle.load_model.specs.Offences.{is_mimetype, least, offences_at, place_if, place_of}
use Rattle.load_model.specs.Values.{value_of}
use Rattle.doc_load.proofs.faults.add_root.Goals as goal

pub returns : goal.returns
returns c = λ before known.
    let root = c.args.root.now in
    let roots = place_if (not (is tag.Document root)) (place_of root) in
    let mimes = place_if (not (option_map_or is_mimetype (value_of key.Mimetype (attributes_of root)) false)) (place_of root) in
    let one = c.add_at.ensures before known ∙ ap (λ (places : List ℕ). least (before ++ offences_at kind.Root places)) c.wrong_root.ensures in
    let two = c.add_at-2.ensures (before ++ offences_at kind.Root roots) one ∙ ap (λ (places : List ℕ). least (before ++ offences_at kind.Root roots ++ offences_at kind.Mime places)) c.wrong_mimetype.ensures in
    c.add_all.ensures (before ++ offences_at kind.Root roots ++ offences_at kind.Mime mimes) two
    ∙ ap (λ (places : List ℕ). least (before ++ offences_at kind.Root roots ++ offences_at kind.Mime mimes ++ offences_at kind.NoText places)) (c.as_slice.ensures.value ∙ c.in_ok-texts.ensures)
