-- The names of items that come to stand in another paragraph.
use Rattle.std.proofs.Common.{◌≡◌, ℕ, ◌||◌, Bool, true, false, cond, List, [], ◌∷◌, ◌++◌, map, Option, Some, None, refl, ap, ap₂, sym, ◌∙◌, subst, append_assoc}
use Rattle.std.specs.Prelude.{if◌then◌else◌}
use Rattle.std.specs.List.{flat_map, list_any, AllByRecursion as Each}
use Rattle.std.specs.Str.{bytes_eq}
use Rattle.std.proofs.lemmas.Bool.{false≢true}
use Rattle.doc_model.specs.declared.paragraph.Par.{Par, out-Par}
use Rattle.doc_model.specs.declared.paragraph.ParId.{ParId}
use Rattle.doc_model.specs.declared.paragraph.Item.{Item}
use Rattle.doc_model.specs.declared.paragraph.Note.{Note, out-Note}
use Rattle.doc_model.specs.Reading.{note_of, number_of}
use Rattle.name_index.specs.declared.names.NameKind.{NameKind}
use Rattle.name_index.proofs.Found.{or_else}
use Rattle.paragraph_rows.proofs.Lists.{each_front, each_behind, each_both}
use Rattle.names_change.specs.ItemNames.{item_names}
use Rattle.names_change.proofs.Places.{item_places, par_places, read_places}
use Rattle.names_change.specs.Leading.{have_name, leads_to}
use Rattle.names_change.proofs.Lead.{Pairs, Other, lead, lead_both, others_lead, own_leads, redirected}
use Rattle.names_change.proofs.Others.{Differs, named}

pub any_both : (name : List ℕ) (front behind : List (List ℕ)) → list_any (bytes_eq name) (front ++ behind) ≡ (list_any (bytes_eq name) front || list_any (bytes_eq name) behind)
any_both name [] behind = refl
any_both name (one ∷ front) behind = by_test (any_both name front behind) (bytes_eq name one) where
  by_test : list_any (bytes_eq name) (front ++ behind) ≡ (list_any (bytes_eq name) front || list_any (bytes_eq name) behind) → (test : Bool)
      → (test || list_any (bytes_eq name) (front ++ behind)) ≡ ((test || list_any (bytes_eq name) front) || list_any (bytes_eq name) behind)
  by_test more true = refl
  by_test more false = more

-- names of one paragraph
own_lead : (name : List ℕ) (id : ParId) (names : List (List ℕ)) → lead name (map (λ one. (one, id)) names) ≡ cond (list_any (bytes_eq name) names) (Some id) None
own_lead name id [] = refl
own_lead name id (one ∷ names) = by_test (own_lead name id names) (bytes_eq name one) where
  by_test : lead name (map (λ one. (one, id)) names) ≡ cond (list_any (bytes_eq name) names) (Some id) None → (test : Bool)
      → cond test (Some id) (lead name (map (λ one. (one, id)) names)) ≡ cond (test || list_any (bytes_eq name) names) (Some id) None
  by_test more true = refl
  by_test more false = more

module _ (kind : NameKind) (from : ParId) where
  -- the names of the paragraphs of notes
  abbrev pub in_notes : List Note → Pairs
  in_notes notes = flat_map (λ note. flat_map (par_places kind) (out-Note note).pars) notes

  -- notes without the paragraph
  abbrev pub Without : List Note → Type 0
  Without notes = Each (λ note. Each (λ par. Differs from.0 (number_of par)) (out-Note note).pars) notes

  items_other : (id : ParId) (items : List Item) → Differs from.0 id.0 → Each (Other from.0) (flat_map (item_places kind id) items)
  items_other id [] differs = tt
  items_other id (item ∷ items) differs =
      each_both (Other from.0) (item_places kind id item) (flat_map (item_places kind id) items) (named from.0 id (item_names kind item) differs) (items_other id items differs)

  pars_other : (pars : List Par) → Each (λ par. Differs from.0 (number_of par)) pars → Each (Other from.0) (flat_map (par_places kind) pars)
  pars_other [] differ = tt
  pars_other (par ∷ pars) differ =
      each_both (Other from.0) (par_places kind par) (flat_map (par_places kind) pars) (items_other (out-Par par).id (out-Par par).items differ.0) (pars_other pars differ.1)

  notes_other : (notes : List Note) → Without notes → Each (Other from.0) (in_notes notes)
  notes_other [] without = tt
  notes_other (note ∷ notes) without =
      each_both (Other from.0) (flat_map (par_places kind) (out-Note note).pars) (in_notes notes) (pars_other (out-Note note).pars without.0) (notes_other notes without.1)

  -- items as they are read, by the paragraph that they stand in
  abbrev pub led : List ℕ → ParId → List Item → Option ParId
  led name id items = lead name (flat_map (read_places kind id) items)

  opened : (name : List ℕ) (id : ParId) (item : Item) (items : List Item)
      → led name id (item ∷ items) ≡ or_else (cond (list_any (bytes_eq name) (item_names kind item)) (Some id) None) (or_else (lead name (in_notes (note_of item))) (led name id items))
  opened name id item items =
      ap (lead name) (append_assoc (item_places kind id item) (in_notes (note_of item)) (flat_map (read_places kind id) items))
      ∙ lead_both name (item_places kind id item) (in_notes (note_of item) ++ flat_map (read_places kind id) items)
      ∙ ap₂ or_else (own_lead name id (item_names kind item)) (lead_both name (in_notes (note_of item)) (flat_map (read_places kind id) items))

  -- in another paragraph
  moved_one : (to : ParId) (there : Bool) (between one other : Option ParId) → leads_to from between ≡ false → other ≡ redirected from to one
      → or_else (cond there (Some to) None) (or_else between other) ≡ redirected from to (or_else (cond there (Some from) None) (or_else between one))
  moved_one to true between one other none is = sym (ap (λ (b : Bool). if b then Some to else Some from) (own_leads from))
  moved_one to false (Some par) one other none is = sym (ap (λ (b : Bool). if b then Some to else Some par) none)
  moved_one to false None one other none is = is

  pub renamed : (name : List ℕ) (to : ParId) (items : List Item) → Without (flat_map note_of items) → led name to items ≡ redirected from to (led name from items)
  renamed name to [] without = refl
  renamed name to (item ∷ items) without =
      let mine : Without (note_of item) = each_front (λ note. Each (λ par. Differs from.0 (number_of par)) (out-Note note).pars) (note_of item) (flat_map note_of items) without in
      let more : Without (flat_map note_of items) = each_behind (λ note. Each (λ par. Differs from.0 (number_of par)) (out-Note note).pars) (note_of item) (flat_map note_of items) without in
      opened name to item items
      ∙ moved_one to (list_any (bytes_eq name) (item_names kind item)) (lead name (in_notes (note_of item))) (led name from items) (led name to items)
      (others_lead from name (in_notes (note_of item)) (notes_other (note_of item) mine)) (renamed name to items more)
      ∙ ap (redirected from to) (sym (opened name from item items))

  -- what leads to the paragraph is a name of its items
  pub record Tells (said : Option ParId) (have : Bool) : Type 0 where
    pub there : leads_to from said ≡ true → have ≡ true
    pub none : said ≡ None → have ≡ false

  told_one : (there have : Bool) (between one : Option ParId) → leads_to from between ≡ false → Tells one have
      → Tells (or_else (cond there (Some from) None) (or_else between one)) (there || have)
  told_one true have between one none tells = record { there = λ _. refl; none = λ is. absurd (cc) }
  told_one false have (Some par) one none tells = record { there = λ is. absurd (false≢true (sym none ∙ is)); none = λ is. absurd (cc) }
  told_one false have None one none tells = tells

  pub told : (name : List ℕ) (items : List Item) → Without (flat_map note_of items) → Tells (led name from items) (have_name kind name items)
  told name [] without = record { there = λ is. absurd (false≢true is); none = λ is. refl }
  told name (item ∷ items) without =
      let mine : Without (note_of item) = each_front (λ note. Each (λ par. Differs from.0 (number_of par)) (out-Note note).pars) (note_of item) (flat_map note_of items) without in
      let more : Without (flat_map note_of items) = each_behind (λ note. Each (λ par. Differs from.0 (number_of par)) (out-Note note).pars) (note_of item) (flat_map note_of items) without in
      subst (λ (said : Option ParId). Tells said (have_name kind name (item ∷ items))) (sym (opened name from item items))
      (subst (Tells (or_else (cond (list_any (bytes_eq name) (item_names kind item)) (Some from) None) (or_else (lead name (in_notes (note_of item))) (led name from items))))
      (sym (any_both name (item_names kind item) (flat_map (item_names kind) items)))
      (told_one (list_any (bytes_eq name) (item_names kind item)) (have_name kind name items) (lead name (in_notes (note_of item))) (led name from items)
      (others_lead from name (in_notes (note_of item)) (notes_other (note_of item) mine)) (told name items more)))
