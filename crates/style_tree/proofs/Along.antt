-- The first stated values along properties that are gathered one after another.
use Rattle.std.proofs.Common.{◌≡◌, List, [], ◌∷◌, ◌++◌, map, Option, Some, None, refl, ◌∙◌}
use Rattle.std.specs.Option.{option_or}
use Rattle.doc_model.specs.declared.style.Props.{Props}
use Rattle.doc_model.specs.Empty.{unstated}
use Rattle.style_model.specs.Effective.{first_stated, stated_along}
use Rattle.style_tree.specs.Filled.{filled}

-- the first two may be taken together
first_two : {X : Type 0} (one two : Option X) (values : List (Option X)) → first_stated (one ∷ two ∷ values) ≡ first_stated (option_or one two ∷ values)
first_two None two values = refl
first_two (Some value) two values = refl

first_one : {X : Type 0} (one : Option X) → first_stated (one ∷ []) ≡ one
first_one None = refl
first_one (Some value) = refl

first_front : {X : Type 0} (field : Props → Option X) (front back : List Props) → first_stated (map field (front ++ back)) ≡ first_stated (first_stated (map field front) ∷ map field back)
first_front field [] back = refl
first_front field (props ∷ front) back = by (field props) (first_front field front back)
  where
    by : (value : Option _) → first_stated (map field (front ++ back)) ≡ first_stated (first_stated (map field front) ∷ map field back) → first_stated (value ∷ map field (front ++ back)) ≡ first_stated (first_stated (value ∷ map field front) ∷ map field back)
    by None rest = rest
    by (Some value) rest = refl

pub along_two : (one two : Props) (rest : List Props) → stated_along (one ∷ two ∷ rest) ≡ stated_along (filled one two ∷ rest)
along_two one two rest = λ i. record {
  margin_left = first_two one.margin_left two.margin_left (map (λ props. props.margin_left) rest) i;
  margin_right = first_two one.margin_right two.margin_right (map (λ props. props.margin_right) rest) i;
  margin_top = first_two one.margin_top two.margin_top (map (λ props. props.margin_top) rest) i;
  margin_bottom = first_two one.margin_bottom two.margin_bottom (map (λ props. props.margin_bottom) rest) i;
  indent = first_two one.indent two.indent (map (λ props. props.indent) rest) i;
  align = first_two one.align two.align (map (λ props. props.align) rest) i;
  break_before = first_two one.break_before two.break_before (map (λ props. props.break_before) rest) i;
  break_after = first_two one.break_after two.break_after (map (λ props. props.break_after) rest) i;
  keep_next = first_two one.keep_next two.keep_next (map (λ props. props.keep_next) rest) i;
  keep_together = first_two one.keep_together two.keep_together (map (λ props. props.keep_together) rest) i;
  widows = first_two one.widows two.widows (map (λ props. props.widows) rest) i;
  orphans = first_two one.orphans two.orphans (map (λ props. props.orphans) rest) i;
  page_number = first_two one.page_number two.page_number (map (λ props. props.page_number) rest) i;
  display = first_two one.display two.display (map (λ props. props.display) rest) i;
  tabs = first_two one.tabs two.tabs (map (λ props. props.tabs) rest) i;
}

pub along_one : (one : Props) → stated_along (one ∷ []) ≡ one
along_one one = λ i. record {
  margin_left = first_one one.margin_left i;
  margin_right = first_one one.margin_right i;
  margin_top = first_one one.margin_top i;
  margin_bottom = first_one one.margin_bottom i;
  indent = first_one one.indent i;
  align = first_one one.align i;
  break_before = first_one one.break_before i;
  break_after = first_one one.break_after i;
  keep_next = first_one one.keep_next i;
  keep_together = first_one one.keep_together i;
  widows = first_one one.widows i;
  orphans = first_one one.orphans i;
  page_number = first_one one.page_number i;
  display = first_one one.display i;
  tabs = first_one one.tabs i;
}

pub along_front : (front back : List Props) → stated_along (front ++ back) ≡ stated_along (stated_along front ∷ back)
along_front front back = λ i. record {
  margin_left = first_front (λ props. props.margin_left) front back i;
  margin_right = first_front (λ props. props.margin_right) front back i;
  margin_top = first_front (λ props. props.margin_top) front back i;
  margin_bottom = first_front (λ props. props.margin_bottom) front back i;
  indent = first_front (λ props. props.indent) front back i;
  align = first_front (λ props. props.align) front back i;
  break_before = first_front (λ props. props.break_before) front back i;
  break_after = first_front (λ props. props.break_after) front back i;
  keep_next = first_front (λ props. props.keep_next) front back i;
  keep_together = first_front (λ props. props.keep_together) front back i;
  widows = first_front (λ props. props.widows) front back i;
  orphans = first_front (λ props. props.orphans) front back i;
  page_number = first_front (λ props. props.page_number) front back i;
  display = first_front (λ props. props.display) front back i;
  tabs = first_front (λ props. props.tabs) front back i;
}

-- with two more behind them
pub along_three : (front : List Props) (one two : Props) → stated_along (front ++ one ∷ two ∷ []) ≡ filled (filled (stated_along front) one) two
along_three front one two = along_front front (one ∷ two ∷ []) ∙ along_two (stated_along front) one (two ∷ []) ∙ along_two (filled (stated_along front) one) two [] ∙ along_one (filled (filled (stated_along front) one) two)

-- what states nothing adds nothing
pub along_unstated : (rest : List Props) → stated_along (unstated ∷ rest) ≡ stated_along rest
unfolding unstated
along_unstated rest = refl
