-- Ranges of items that are redirected.
use Rattle.std.proofs.Common.{◌≡◌, ℕ, ◌+◌, ◌-◌, ◌&&◌, ◌<◌, get_or, false, not, List, [], ◌∷◌, ◌++◌, take, drop, length, ap, sym, ◌∙◌, subst, arith, length-drop}
use Rattle.std.specs.List.{between}
use Rattle.std.proofs.lemmas.List.{take_all, take_more}
use Rattle.doc_model.specs.declared.paragraph.ParId.{ParId}
use Rattle.doc_model.specs.declared.paragraph.Item.{Item}
use Rattle.name_index.specs.declared.names.NameKind.{NameKind}
use Rattle.name_index.specs.declared.names.Named.{Named}
use Rattle.name_index.specs.Names.{found}
use Rattle.names_change.specs.Leading.{have_name, leads_to, Redirects}
use Rattle.index_steps.proofs.Steps.{then_redirects, redirects_as, have_both, back_redirects}

-- the first items, and the next one
pub take_item : (items : List Item) (at : ℕ) (item : Item) → item ≡ get_or items at item → at < length items → take (at + 1) items ≡ take at items ++ item ∷ []
take_item items at item is inside = take_more items at item inside ∙ ap (λ (next : Item). take at items ++ next ∷ []) (sym is)

-- some items, and the next one
pub one_more : (items : List Item) (at : ℕ) (item : Item) (from to : ParId) (old mid new : List Named) → take (at + 1) items ≡ take at items ++ item ∷ []
    → Redirects (λ kind name. have_name kind name (take at items)) from to old mid → Redirects (λ kind name. have_name kind name (item ∷ [])) from to mid new
    → Redirects (λ kind name. have_name kind name (take (at + 1) items)) from to old new
one_more items at item from to old mid new more first second =
    then_redirects (λ kind name. have_name kind name (take at items)) (λ kind name. have_name kind name (item ∷ [])) (λ kind name. have_name kind name (take (at + 1) items)) from to old mid new
    (λ kind name. ap (have_name kind name) more ∙ have_both kind name (take at items) (item ∷ [])) first second

-- items in two parts
pub two_parts : (front rear whole : List Item) (from to : ParId) (old mid new : List Named) → front ++ rear ≡ whole → Redirects (λ kind name. have_name kind name front) from to old mid
    → Redirects (λ kind name. have_name kind name rear) from to mid new → Redirects (λ kind name. have_name kind name whole) from to old new
two_parts front rear whole from to old mid new all first second =
    then_redirects (λ kind name. have_name kind name front) (λ kind name. have_name kind name rear) (λ kind name. have_name kind name whole) from to old mid new
    (λ kind name. ap (have_name kind name) (sym all) ∙ have_both kind name front rear) first second

-- ranges from the first item, and to the last
pub from_first : (items : List Item) (end : ℕ) → between 0 end items ≡ take end items
from_first items end = let same : end - 0 ≡ end = omega arith in ap (λ (n : ℕ). take n items) same

pub to_last : (items : List Item) (start end : ℕ) → end ≡ length items → between start end items ≡ drop start items
to_last items start end last = take_all (end - start) (drop start items) (omega (arith, last, length-drop start items))

whole : (items : List Item) (end : ℕ) → end ≡ length items → between 0 end items ≡ items
whole items end last = to_last items 0 end last

pub joined : (items : List Item) (end : ℕ) (from to : ParId) (names copied later new : List Named) → end ≡ length items → copied ≡ names → new ≡ later
    → Redirects (λ kind name. have_name kind name (between 0 end items)) from to copied later → Redirects (λ kind name. have_name kind name items) from to names new
joined items end from to names copied later new last was is redirects =
    subst (λ (some : List Named). Redirects (λ kind name. have_name kind name items) from to some new) was
    (subst (λ (some : List Named). Redirects (λ kind name. have_name kind name items) from to copied some) (sym is)
    (redirects_as (λ kind name. have_name kind name (between 0 end items)) (λ kind name. have_name kind name items) from to copied later (λ kind name. ap (have_name kind name) (sym (whole items end last))) redirects))

pub parted : (items : List Item) (at end : ℕ) (from to : ParId) (names copied mid later new : List Named) → end ≡ length items → copied ≡ names → new ≡ later
    → ((kind : NameKind) (name : List ℕ) → leads_to to (found names kind name) ≡ false)
    → Redirects (λ kind name. have_name kind name (between at end items)) from to copied mid → Redirects (λ kind name. have_name kind name (between 0 at items)) to from mid later
    → Redirects (λ kind name. have_name kind name (drop at items) && not (have_name kind name (take at items))) from to names new
parted items at end from to names copied mid later new last was is none first second =
    subst (λ (some : List Named). Redirects (λ kind name. have_name kind name (drop at items) && not (have_name kind name (take at items))) from to names some) (sym is)
    (back_redirects (λ kind name. have_name kind name (drop at items)) (λ kind name. have_name kind name (take at items)) from to names mid later none
    (subst (λ (some : List Named). Redirects (λ kind name. have_name kind name (drop at items)) from to some mid) was
    (redirects_as (λ kind name. have_name kind name (between at end items)) (λ kind name. have_name kind name (drop at items)) from to copied mid (λ kind name. ap (have_name kind name) (sym (to_last items at end last))) first))
    (redirects_as (λ kind name. have_name kind name (between 0 at items)) (λ kind name. have_name kind name (take at items)) to from mid later (λ kind name. ap (have_name kind name) (sym (from_first items at))) second))
