-- The properties of styles are read back from the attributes that they are written as.
use Rattle.std.proofs.Common.{◌≡◌, ℕ, ℤ, ◌≤◌, List, [], ◌∷◌, map, codes, decimal, refl, ap₂, sym, ◌∙◌, arith, Option, Some, None, option_map, option_to_list}
use Rattle.std.specs.List.{AllByRecursion as Each}
use Rattle.std.specs.Option.{option_or}
use Rattle.doc_model.specs.declared.style.PageStart.{PageStart}
use Rattle.doc_model.specs.declared.style.PageStart.TheVariants as start
use Rattle.doc_model.specs.declared.style.Props.{Props}
use Rattle.doc_model.specs.Ranges.{IsLength}
use Rattle.style_model.specs.Lengths.{length_spelling}
use Rattle.page_style.proofs.Spelled.{spelling_says}
use Rattle.load_model.specs.declared.names.Key.{Key}
use Rattle.load_model.specs.declared.names.Key.TheVariants as key
use Rattle.load_model.specs.Styles.{margin, paragraph_rules, properties}
use Rattle.load_model.specs.Values as value
use Rattle.load_model.specs.Values.{Rule, rule}
use Rattle.read_values.proofs.LengthTexts.{value_read}
use Rattle.written_model.specs.Styles.{paragraph_attributes, text_attributes}
use Rattle.written_model.specs.Values.{align_text, break_text, keep_text, page_start_text, display_text}
use Rattle.back_names.specs.Named.{named_attribute}
use Rattle.back_values.proofs.Numbers.{number_back, start_back}
use Rattle.back_values.proofs.Words.{align_back, break_back, keep_back, display_back}
use Rattle.back_styles.specs.Styles.{AreInRange, IsStart}
use Rattle.back_styles.proofs.Keys as named
use Rattle.back_styles.proofs.Slots.{Piece, Slot, optional, all_slots, all_named, stated_of, look_up, value_stated, value_good, not_stated, IsGood}

-- values in their ranges are read back
pub length_back : (units : ℤ) → IsLength units → value.length_value (length_spelling units) ≡ Some units
length_back units is = value_read (length_spelling units) units (spelling_says units is) is

lines_back : (lines : ℕ) → lines ≤ 255 → value.line_count (decimal lines) ≡ Some lines
lines_back lines few = number_back 0 255 lines (omega arith) few (omega arith)

page_back : (page : PageStart) → IsStart page → value.page_start (page_start_text page) ≡ Some page
page_back start.Auto is = refl
page_back (start.At number) is = start_back number is

-- whatever it is, a value of few words is in its range
abbrev Any : {X : Type 0} → X → Type 0
Any x = Unit {0}

pub any_stated : {X : Type 0} (one : Option X) → Each Any (option_to_list one)
any_stated None = tt
any_stated (Some x) = (tt, tt)

-- the attributes of a paragraph, of which the last stands in front, and those of text
abbrev pub paragraph_pieces : Props → List Piece
paragraph_pieces props =
    optional (codes "style:page-number") key.PageNumber page_start_text props.page_number named.page_number_key
    ∷ optional (codes "fo:orphans") key.Orphans decimal props.orphans named.orphans_key
    ∷ optional (codes "fo:widows") key.Widows decimal props.widows named.widows_key
    ∷ optional (codes "fo:keep-together") key.KeepTogether keep_text props.keep_together named.keep_together_key
    ∷ optional (codes "fo:keep-with-next") key.KeepNext keep_text props.keep_next named.keep_next_key
    ∷ optional (codes "fo:break-after") key.BreakAfter break_text props.break_after named.after_key
    ∷ optional (codes "fo:break-before") key.BreakBefore break_text props.break_before named.before_key
    ∷ optional (codes "fo:text-align") key.Align align_text props.align named.align_key
    ∷ optional (codes "fo:text-indent") key.Indent length_spelling props.indent named.indent_key
    ∷ optional (codes "fo:margin-bottom") key.MarginBottom length_spelling props.margin_bottom named.bottom_key
    ∷ optional (codes "fo:margin-top") key.MarginTop length_spelling props.margin_top named.top_key
    ∷ optional (codes "fo:margin-right") key.MarginRight length_spelling props.margin_right named.right_key
    ∷ optional (codes "fo:margin-left") key.MarginLeft length_spelling props.margin_left named.left_key ∷ []

abbrev pub text_pieces : Props → List Piece
text_pieces props = optional (codes "text:display") key.Display display_text props.display named.display_key ∷ []

abbrev pub paragraph_slots : Props → List Slot
paragraph_slots props = all_slots (paragraph_pieces props)

abbrev pub text_slots : Props → List Slot
text_slots props = all_slots (text_pieces props)

pub paragraph_named : (props : Props) → map named_attribute (paragraph_attributes props) ≡ stated_of (paragraph_slots props)
paragraph_named props = all_named (paragraph_pieces props)

pub text_named : (props : Props) → map named_attribute (text_attributes props) ≡ stated_of (text_slots props)
text_named props = all_named (text_pieces props)

-- a margin that is stated by itself, where that of all four isn't
pub margin_back : (side : Key) (slots : List Slot) (one : Option ℤ) → look_up side slots ≡ option_or (option_map length_spelling one) None → look_up key.Margin slots ≡ None → Each IsLength (option_to_list one)
    → margin side (stated_of slots) ≡ one
margin_back side slots one found none is =
    ap₂ (λ (own others : Option ℤ). option_or own others) (value_stated value.length_value length_spelling IsLength length_back side slots one found is) (not_stated key.Margin value.length_value slots none) ∙ or_none one where
      or_none : (given : Option ℤ) → option_or given None ≡ given
      or_none None = refl
      or_none (Some units) = refl

-- properties are read from their attributes
pub properties_back : (props : Props) → props.tabs ≡ None → AreInRange props → properties (stated_of (paragraph_slots props)) (stated_of (text_slots props)) ≡ props
properties_back props tabs are = λ i. record {
  margin_left = margin_back key.MarginLeft slots props.margin_left refl refl are.margin_left i;
  margin_right = margin_back key.MarginRight slots props.margin_right refl refl are.margin_right i;
  margin_top = margin_back key.MarginTop slots props.margin_top refl refl are.margin_top i;
  margin_bottom = margin_back key.MarginBottom slots props.margin_bottom refl refl are.margin_bottom i;
  indent = value_stated value.length_value length_spelling IsLength length_back key.Indent slots props.indent refl are.indent i;
  align = value_stated value.alignment align_text Any (λ one is. align_back one) key.Align slots props.align refl (any_stated props.align) i;
  break_before = value_stated value.break_at break_text Any (λ one is. break_back one) key.BreakBefore slots props.break_before refl (any_stated props.break_before) i;
  break_after = value_stated value.break_at break_text Any (λ one is. break_back one) key.BreakAfter slots props.break_after refl (any_stated props.break_after) i;
  keep_next = value_stated value.keep keep_text Any (λ one is. keep_back one) key.KeepNext slots props.keep_next refl (any_stated props.keep_next) i;
  keep_together = value_stated value.keep keep_text Any (λ one is. keep_back one) key.KeepTogether slots props.keep_together refl (any_stated props.keep_together) i;
  widows = value_stated value.line_count decimal (λ lines. lines ≤ 255) lines_back key.Widows slots props.widows refl are.widows i;
  orphans = value_stated value.line_count decimal (λ lines. lines ≤ 255) lines_back key.Orphans slots props.orphans refl are.orphans i;
  page_number = value_stated value.page_start page_start_text IsStart page_back key.PageNumber slots props.page_number refl are.page_number i;
  display = value_stated value.display display_text Any (λ one is. display_back one) key.Display (text_slots props) props.display refl (any_stated props.display) i;
  tabs = sym tabs i;
} where
  slots : List Slot
  slots = paragraph_slots props

-- none of them is left out
pub paragraph_good : (props : Props) → AreInRange props → Each (IsGood paragraph_rules) (paragraph_slots props)
paragraph_good props are = (
  value_good value.length_value length_spelling IsLength length_back props.margin_left are.margin_left,
  (
    value_good value.length_value length_spelling IsLength length_back props.margin_right are.margin_right,
    (
      value_good value.length_value length_spelling IsLength length_back props.margin_top are.margin_top,
      (
        value_good value.length_value length_spelling IsLength length_back props.margin_bottom are.margin_bottom,
        (
          value_good value.length_value length_spelling IsLength length_back props.indent are.indent,
          (
            value_good value.alignment align_text Any (λ one is. align_back one) props.align (any_stated props.align),
            (
              value_good value.break_at break_text Any (λ one is. break_back one) props.break_before (any_stated props.break_before),
              (
                value_good value.break_at break_text Any (λ one is. break_back one) props.break_after (any_stated props.break_after),
                (
                  value_good value.keep keep_text Any (λ one is. keep_back one) props.keep_next (any_stated props.keep_next),
                  (
                    value_good value.keep keep_text Any (λ one is. keep_back one) props.keep_together (any_stated props.keep_together),
                    (
                      value_good value.line_count decimal (λ lines. lines ≤ 255) lines_back props.widows are.widows,
                      (
                        value_good value.line_count decimal (λ lines. lines ≤ 255) lines_back props.orphans are.orphans,
                        (value_good value.page_start page_start_text IsStart page_back props.page_number are.page_number, tt),
                      ),
                    ),
                  ),
                ),
              ),
            ),
          ),
        ),
      ),
    ),
  ),
)

pub text_good : (props : Props) → Each (IsGood (rule key.Display value.display ∷ [])) (text_slots props)
text_good props = (value_good value.display display_text Any (λ one is. display_back one) props.display (any_stated props.display), tt)
