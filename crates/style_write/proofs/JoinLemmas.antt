-- Attributes behind attributes.
use Rattle.std.proofs.Common.{◌≡◌, ℕ, List, ◌++◌, ap, sym, ◌∙◌, append_assoc, Result, Ok, Err, OnOk}
use Rattle.std.proofs.lemmas.Grind.{flat_map-append}
use Rattle.std.specs.List.{flat_map}
use Rattle.markup_nodes.specs.declared.words.Attr.{Attr}
use Rattle.tree_text.specs.Writing.{attr_text}

pub joined : (new one old : List ℕ) (first more : List Attr) → one ≡ old ++ flat_map attr_text first → new ≡ one ++ flat_map attr_text more → new ≡ old ++ flat_map attr_text (first ++ more)
joined new one old first more e f =
    f ∙ (ap (λ (t : List ℕ). t ++ flat_map attr_text more) e ∙ (append_assoc old (flat_map attr_text first) (flat_map attr_text more) ∙ ap (λ (t : List ℕ). old ++ t) (sym (flat_map-append attr_text first more))))

pub joined_last : {E : Type 0} (result : Result (Unit {0}) E) (new one old : List ℕ) (first more : List Attr) → one ≡ old ++ flat_map attr_text first → OnOk result (new ≡ one ++ flat_map attr_text more)
    → OnOk result (new ≡ old ++ flat_map attr_text (first ++ more))
joined_last (Ok unit) new one old first more e f = joined new one old first more e f
joined_last (Err why) new one old first more e f = tt
