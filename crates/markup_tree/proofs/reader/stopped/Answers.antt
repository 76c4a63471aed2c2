-- The end of a text is as far as it has bytes.
use Rattle.std.proofs.Common.{◌≡◌, ℕ, ◌-◌, chars, ap, sym, ◌∙◌, arith}
use Rattle.std.proofs.lemmas.Str.{chars-nil}
use Rattle.markup_parts.specs.declared.stop.Stop.TheVariants.{Cut}
use Rattle.markup_tags.specs.declared.fault.Fault.{Fault}
use Rattle.markup_tags.specs.declared.fault.Fault.TheVariants.{Stopped}
use Rattle.markup_tree.specs.Documents.{place_of, byte_count}
use Rattle.markup_tree.specs.Stacks.{fault_of}
use Rattle.markup_tree.specs.declared.reader.OffenceKind.TheVariants.{Form}
use Rattle.markup_tree.specs.declared.reader.ReadFault.TheVariants.{Offence}
use Rattle.markup_tree.proofs.reader.stopped.Goals as goal

pub returns-in-Stopped-Cut : goal.returns-in-Stopped-Cut
returns-in-Stopped-Cut c =
    let whole = chars c.args.whole.now in
    let end : byte_count whole - 0 ≡ byte_count whole = omega arith in
    let place : c.place.result ≡ byte_count whole = c.place.ensures.place ∙ (ap (place_of whole) chars-nil ∙ end) in
    let cut : c.in-Stopped-Cut.field-0 ≡ Cut = rw c.in-Stopped-Cut.is at c.in-Stopped-Cut.field-0-is in
    let why : c.args.fault ≡ Stopped Cut = c.in-Stopped-Cut.is ∙ ap Stopped cut in
    c.offence_at.ensures ∙ (ap (λ (p : ℕ). Offence (record { kind = Form; place = p })) place
    ∙ ap (λ (f : Fault). fault_of f (place_of whole (chars c.args.rest.now)) (byte_count whole)) (sym why))
