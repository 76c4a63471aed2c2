-- The list styles get entries one after another.
use Rattle.std.proofs.Common.{◌≡◌, ◌≢◌, ℕ, zero, suc, ◌+◌, ◌<◌, ◌≤◌, Bool, true, false, cond, List, [], length, take, get_or, Option, Some, None, Result, Ok, Err, refl, ap, sym, ◌∙◌, subst, ◌⊎◌, inl, inr, add-one}
use Rattle.std.specs.Prelude.{MatchOption, OnErr}
use Rattle.std.specs.HashMap.{get}
use Rattle.std.specs.Str.{bytes_eq}
use Rattle.std.proofs.lemmas.Bool.{cases_lt}
use Rattle.std.proofs.lemmas.List.{get_or_past, get_or-replicate}
use Rattle.std.proofs.lemmas.Option.{slice_get-get_or}
use Rattle.std.proofs.lemmas.Slice.Eq.{bytes_eq-Decides}
use Rattle.doc_model.specs.declared.paragraph.ParHead.{ParHead}
use Rattle.doc_model.specs.declared.paragraph.ListPos.{ListPos}
use Rattle.doc_model.specs.declared.list_style.ListStyle.{ListStyle}
use Rattle.field_model.specs.Labels.{item_count, style_named}
use Rattle.list_num.specs.declared.counts.Counts.{Counts}
use Rattle.list_num.specs.declared.counts.StyleCounts.{StyleCounts}
use Rattle.list_num.specs.Counters.{count_in, style_at}
use Rattle.list_num.specs.Counts.{AreOfStyle, HaveCounted, IsUnknown, no_counts, entered}
use Rattle.list_num.proofs.Finding.{find_more, find_here}

none_counted : (level : ℕ) → count_in no_counts level ≡ 0
none_counted zero = refl
none_counted (suc index) = by_cases (cases_lt index 10) where
  by_cases : (index < 10) ⊎ (10 ≤ index) → get_or no_counts index 0 ≡ 0
  by_cases (inl below) = get_or-replicate 10 index 0 0 below
  by_cases (inr past) = get_or_past no_counts index 0 past

-- what an unknown name has
pub of_unknown : (lists : List ListStyle) (before : List ParHead) (known : ℕ) (name : List ℕ) (at : Option ℕ) → IsUnknown lists before known name → style_at lists at ≡ style_named lists name → AreOfStyle lists before name (record { at = at; counters = no_counts })
of_unknown lists before known name at unknown place = record {
  counters = λ level. none_counted level ∙ ap (λ (places : List ListPos). item_count places level) (sym unknown.places);
  place = place;
}

-- the next list style has a name that no list style before it has
pub found_here : (lists : List ListStyle) (known : ℕ) (list : ListStyle) (name : List ℕ) → known < length lists → list ≡ get_or lists known list → bytes_eq list.name name ≡ true → style_named (take known lists) name ≡ None
    → style_at lists (Some known) ≡ style_named lists name
found_here lists known list name lt is same unseen =
    slice_get-get_or lists known list lt
    ∙ sym (find_here (λ (l : ListStyle). bytes_eq l.name name) lists known list lt unseen (ap (λ (l : ListStyle). bytes_eq l.name name) (sym is) ∙ same))

past_here : (lists : List ListStyle) (known : ℕ) (list : ListStyle) (name : List ℕ) → known < length lists → list ≡ get_or lists known list → bytes_eq list.name name ≡ false → style_named (take known lists) name ≡ None
    → style_named (take (known + 1) lists) name ≡ None
past_here lists known list name lt is other unseen =
    rw add-one (find_more (λ (l : ListStyle). bytes_eq l.name name) lists known list lt unseen (ap (λ (l : ListStyle). bytes_eq l.name name) (sym is) ∙ other))

-- the counts when the next list style has its entry
pub have-entered : (lists : List ListStyle) (before : List ParHead) (list : ListStyle) (old new : Counts) → old.known < length lists → list ≡ get_or lists old.known list
    → new.outline ≡ old.outline → new.known ≡ old.known + 1
    → ((name : List ℕ) → get bytes_eq new.lists name ≡ cond (bytes_eq list.name name) (Some (entered old.known (get bytes_eq old.lists list.name))) (get bytes_eq old.lists name))
    → HaveCounted lists before old → HaveCounted lists before new
have-entered lists before list old new lt is outline known puts counted = record {
  outline = λ level. ap (λ (counters : List ℕ). count_in counters level) outline ∙ counted.outline level;
  styles = λ name named. by_test name (bytes_eq list.name name) refl (counted.styles name named);
} where
  more : (name : List ℕ) → bytes_eq list.name name ≡ false → (o : Option StyleCounts) → MatchOption o (IsUnknown lists before old.known name) (AreOfStyle lists before name) → MatchOption o (IsUnknown lists before new.known name) (AreOfStyle lists before name)
  more name other None unknown = record {
    places = unknown.places;
    unseen = ap (λ (n : ℕ). style_named (take n lists) name) known ∙ past_here lists old.known list name lt is other unknown.unseen;
  }
  more name other (Some style) of_style = of_style

  own : (name : List ℕ) → bytes_eq list.name name ≡ true → (o : Option StyleCounts) → MatchOption o (IsUnknown lists before old.known name) (AreOfStyle lists before name) → AreOfStyle lists before name (entered old.known o)
  own name same None unknown = of_unknown lists before old.known name (Some old.known) unknown (found_here lists old.known list name lt is same unknown.unseen)
  own name same (Some style) of_style = of_style

  by_test : (name : List ℕ) (b : Bool) → bytes_eq list.name name ≡ b → MatchOption (get bytes_eq old.lists name) (IsUnknown lists before old.known name) (AreOfStyle lists before name)
      → MatchOption (get bytes_eq new.lists name) (IsUnknown lists before new.known name) (AreOfStyle lists before name)
  by_test name true e was =
      let same : list.name ≡ name = (bytes_eq-Decides list.name name).0 e in
      let found : get bytes_eq new.lists name ≡ Some (entered old.known (get bytes_eq old.lists name)) =
      puts name ∙ ap (λ (b : Bool). cond b (Some (entered old.known (get bytes_eq old.lists list.name))) (get bytes_eq old.lists name)) e
      ∙ ap (λ (n : List ℕ). Some (entered old.known (get bytes_eq old.lists n))) same in
      subst (λ (o : Option StyleCounts). MatchOption o (IsUnknown lists before new.known name) (AreOfStyle lists before name)) (sym found)
      (own name e (get bytes_eq old.lists name) was)
  by_test name false e was =
      let found : get bytes_eq new.lists name ≡ get bytes_eq old.lists name =
      puts name ∙ ap (λ (b : Bool). cond b (Some (entered old.known (get bytes_eq old.lists list.name))) (get bytes_eq old.lists name)) e in
      subst (λ (o : Option StyleCounts). MatchOption o (IsUnknown lists before new.known name) (AreOfStyle lists before name)) (sym found)
      (more name e (get bytes_eq old.lists name) was)

-- what an unknown name has, in the counts
pub unknown_in : (lists : List ListStyle) (before : List ParHead) (name : List ℕ) (counts : Counts) → name ≢ [] → get bytes_eq counts.lists name ≡ None → HaveCounted lists before counts → IsUnknown lists before counts.known name
unknown_in lists before name counts named none counted =
    subst (λ (o : Option StyleCounts). MatchOption o (IsUnknown lists before counts.known name) (AreOfStyle lists before name)) none (counted.styles name named)

-- counts of the same entries
pub have-same : (lists : List ListStyle) (before : List ParHead) (old new : Counts) → new.outline ≡ old.outline → new.known ≡ old.known → ((name : List ℕ) → get bytes_eq new.lists name ≡ get bytes_eq old.lists name)
    → HaveCounted lists before old → HaveCounted lists before new
have-same lists before old new outline known same counted = record {
  outline = λ level. ap (λ (counters : List ℕ). count_in counters level) outline ∙ counted.outline level;
  styles = λ name named.
      subst (λ (n : ℕ). MatchOption (get bytes_eq new.lists name) (IsUnknown lists before n name) (AreOfStyle lists before name)) (sym known)
      (subst (λ (o : Option StyleCounts). MatchOption o (IsUnknown lists before old.known name) (AreOfStyle lists before name)) (sym (same name)) (counted.styles name named));
}

pub on_err : {T E : Type 0} {P : Type 0} (r : Result T E) → P → OnErr r P
on_err (Ok v) p = tt
on_err (Err e) p = p
