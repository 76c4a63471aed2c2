use Rattle.std.proofs.Common.{List, ℕ, ◌∙◌, ap, map}
use Rattle.declared_names.specs.Kept.{stated_of}
use Rattle.doc_load.specs.Parts.{told}
use Rattle.doc_load.proofs.KindLemmas.{stated_step}
use Rattle.doc_load.proofs.declarations.push_stated.Goals as goal

pub declared-preserved : goal.declared-preserved
declared-preserved c =
    let one = c.one-item.result in
    let is = ap (λ (name : List ℕ). record { place = one.place; name = name; left = one.left }) c.get.ensures ∙ ap told c.one-item.is in
    ap (map stated_of) c.in_ok-push.ensures.items ∙ stated_step c.args.declared.now c.declared.one-index one (map stated_of c.args.stated.now.items) c.declared.stated.items _ c.declared-test.true c.declared.invariant is
