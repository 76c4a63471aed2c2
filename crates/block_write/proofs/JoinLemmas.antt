-- Attributes that were added one group after another.
use Rattle.std.proofs.Common.{◌≡◌, ℕ, List, ◌++◌, ap, sym, ◌∙◌, Result, OnOk}
use Rattle.std.proofs.lemmas.Grind.{flat_map-append}
use Rattle.std.specs.List.{flat_map}
use Rattle.markup_nodes.specs.declared.words.Attr.{Attr}
use Rattle.element_text.proofs.AddedLemmas.{more, last}
use Rattle.tree_text.specs.Writing.{attr_text}

both : (old : List ℕ) (first next : List Attr) → old ++ (flat_map attr_text first ++ flat_map attr_text next) ≡ old ++ flat_map attr_text (first ++ next)
both old first next = ap (λ (t : List ℕ). old ++ t) (sym (flat_map-append attr_text first next))

pub joined : (new one old : List ℕ) (first next : List Attr) → one ≡ old ++ flat_map attr_text first → new ≡ one ++ flat_map attr_text next → new ≡ old ++ flat_map attr_text (first ++ next)
joined new one old first next e f = f ∙ (more one old (flat_map attr_text first) e (flat_map attr_text next) ∙ both old first next)

pub joined_last : {E : Type 0} (result : Result (Unit {0}) E) (new one old : List ℕ) (first next : List Attr) → one ≡ old ++ flat_map attr_text first
    → OnOk result (new ≡ one ++ flat_map attr_text next) → OnOk result (new ≡ old ++ flat_map attr_text (first ++ next))
joined_last result new one old first next e h = last result new one (flat_map attr_text next) h (more one old (flat_map attr_text first) e (flat_map attr_text next) ∙ both old first next)
