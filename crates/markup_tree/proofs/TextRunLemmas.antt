-- Characters of the root that stand for themselves, a run of them at once.
use Rattle.std.proofs.Common.{◌≡◌, ◌≢◌, ◌&&◌, ℕ, List, [], ◌∷◌, ◌++◌, Bool, true, false, refl, ap, sym, ◌∙◌, subst, append_assoc}
use Rattle.std.proofs.lemmas.List.{append-nil}
use Rattle.std.specs.List.{AllByRecursion as Each}
use Rattle.markup_parts.specs.Chars.{is_legal, is_text_char}
use Rattle.markup_parts.specs.Outcomes.{IsRead}
use Rattle.markup_parts.proofs.LiteralLemmas.{true_false}
use Rattle.markup_nodes.specs.Node.{Node, Char}
use Rattle.markup_nodes.specs.Nodes.{char_nodes}
use Rattle.markup_nodes.specs.declared.tree.Elem.{Elem, out-Elem}
use Rattle.markup_tree.specs.declared.part.Part.TheVariants.{Inside}
use Rattle.markup_tree.specs.Pieces.{Holds, IsConstruct}
use Rattle.markup_tree.specs.Documents.{Reaches, place_of}
use Rattle.markup_tree.specs.Stacks.{spot_in}
use Rattle.markup_tree.proofs.ConstructLemmas.{lone_read}
use Rattle.markup_tree.proofs.StackLemmas.{holding, holding_own, holding_again, nodes_held, behind_held}
use Rattle.markup_tree.proofs.WayLemmas.{on_step}

both_left : (a b : Bool) → a && b ≡ true → a ≡ true
both_left true b e = refl
both_left false b e = e

legal_text : (c : ℕ) → is_text_char c ≡ true → is_legal c ≡ true
unfolding is_text_char
legal_text c e = both_left (is_legal c) _ e

apart : (c x : ℕ) → is_text_char c ≡ true → is_text_char x ≡ false → c ≢ x
apart c x e f = λ same. true_false e (ap is_text_char same ∙ f)

return_other : is_text_char 0xd ≡ false
unfolding is_text_char is_legal
return_other = refl

ampersand_other : is_text_char 0x26 ≡ false
unfolding is_text_char is_legal
ampersand_other = refl

less_other : is_text_char 0x3c ≡ false
unfolding is_text_char is_legal
less_other = refl

bracket_other : is_text_char 0x5d ≡ false
unfolding is_text_char is_legal
bracket_other = refl

text_read : (c : ℕ) (rest : List ℕ) → is_text_char c ≡ true → IsRead (IsConstruct Inside) (c ∷ rest) (Holds (c ∷ [])) rest
text_read c rest e = lone_read {text = c ∷ rest} {rest = rest} {c = c} refl (apart c 0xd e return_other) (apart c 0x3c e less_other) (apart c 0x26 e ampersand_other) (apart c 0x5d e bracket_other) (legal_text c e)

-- a run of them leads on
pub run_reached : (whole : List ℕ) (below : List Elem) (top : Elem) (cs after : List ℕ) (nodes : List (Node Elem)) → Each (λ c. is_text_char c ≡ true) cs → nodes ≡ (out-Elem top).nodes ++ char_nodes cs
    → Reaches whole (spot_in below top (cs ++ after)) → Reaches whole (spot_in below (holding top nodes) after)
run_reached whole below top [] after nodes all e w =
    subst (λ (elem : Elem). Reaches whole (spot_in below elem after)) (sym (ap (holding top) (e ∙ append-nil (out-Elem top).nodes) ∙ holding_own top)) w
run_reached whole below top (c ∷ cs) after nodes all e w =
    let one = (out-Elem top).nodes ++ Char c ∷ [] in
    let next : Elem = holding top one in
    let step : Reaches whole (spot_in below next (cs ++ after)) =
    on_step whole (spot_in below top (c ∷ (cs ++ after))) (Holds (c ∷ [])) (cs ++ after) (text_read c (cs ++ after) all.0) w (spot_in below next (cs ++ after))
    (behind_held (place_of whole (c ∷ (cs ++ after))) below top (c ∷ (cs ++ after)) (cs ++ after) one (c ∷ []) refl) in
    let more : nodes ≡ (out-Elem next).nodes ++ char_nodes cs =
    e ∙ (sym (append_assoc (out-Elem top).nodes (Char c ∷ []) (char_nodes cs)) ∙ ap (λ (ns : List (Node Elem)). ns ++ char_nodes cs) (sym (nodes_held top one))) in
    subst (λ (elem : Elem). Reaches whole (spot_in below elem after)) (holding_again top one nodes) (run_reached whole below next cs after nodes all.1 more step)
