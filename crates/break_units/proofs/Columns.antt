-- The columns of a text are at most its bytes.
use Rattle.std.proofs.Common.{◌≡◌, ℕ, ◌+◌, ◌<◌, ◌≤◌, Bool, true, false, cond, not, nat_le, ◌&&◌, ◌==◌, List, [], ◌∷◌, length, Option, Some, None, refl, ap, subst, arith, length-append, chars, encode_utf8, encode_utf8_all, IsUtf8}
use Rattle.std.proofs.lemmas.Bool.Decides.{nat_tests}
use Rattle.std.proofs.lemmas.Str.{length-encode, len_utf8_bounds, encodes-chars}
use Rattle.unicode_width.specs.declared.kind.Kind.{Kind}
use Rattle.unicode_width.specs.declared.kind.Kind.TheVariants as kinds
use Rattle.unicode_width.specs.declared.state.After.{After}
use Rattle.unicode_width.specs.declared.state.After.TheVariants.{Nothing, LineFeed, EmojiModifier, RegionalIndicator, RegionalIndicators, Emoji, ZwjEmoji, KeycapZwjEmoji, IndicatorZwj, EvenIndicatorsZwj, OddIndicatorsZwj, TagEnd, TagDigit1, TagDigit2, TagDigit3, TagLetter1, TagLetter2, TagLetter3, TagLetter4, TagLetter5, TagLetter6, KiratE, KiratAi, Alef, Solidus, SolidusAlef, Lamed, ZwjLamed, Ya, ZwjYa, VowelZwjYa, Tifinagh, ZwjTifinagh, JoinerTifinagh, LisuTone, OrkhonI, ZwjOrkhonI, KhmerLetter}
use Rattle.unicode_width.specs.declared.state.State.{State}
use Rattle.unicode_width.specs.declared.state.Change.{Change}
use Rattle.unicode_width.specs.declared.state.Change.TheVariants.{Less, Same, One, Three}
use Rattle.unicode_width.specs.Kind.{kind, is_ligature_transparent, is_text_presentation_base}
use Rattle.unicode_width.specs.Width.{is_emoji_variation_base, before, plain, single, of_kind, alone, before_alef, joins, Reading, added, joined_or, with_joiner, if_kept, is_joined_emoji, skips_marks, is_line_feed, is_quote, is_quote_selector, is_plain, past_selectors, in_context, past_emoji, step, read_before, str_width}

-- the bytes of an emoji selector that no column was counted for: the character before it may take one column more than it has bytes
abbrev spare : State → ℕ
spare s = cond s.emoji 1 0

spare-le : (s : State) → spare s ≤ 1
spare-le s = one s.emoji where
  one : (b : Bool) → cond b 1 0 ≤ 1
  one true = omega arith
  one false = omega arith

-- a reading whose columns are at most so many bytes, less the spare one
record IsCovered (r : Reading) (n : ℕ) : Type 0 where
  covers : r.0 + spare r.1 ≤ n

IsCovered-cond : (b : Bool) (r q : Reading) (n : ℕ) → (b ≡ true → IsCovered r n) → (b ≡ false → IsCovered q n) → IsCovered (cond b r q) n
IsCovered-cond true r q n p h = p refl
IsCovered-cond false r q n p h = h refl

IsCovered-any : (total : ℕ) (s : State) (n : ℕ) → total + 1 ≤ n → IsCovered (total, s) n
IsCovered-any total s n h = record { covers = omega (arith, spare-le s) }

IsCovered-before : (total : ℕ) (after : After) (n : ℕ) → total ≤ n → IsCovered (total, before after) n
IsCovered-before total after n h = record { covers = omega arith }

-- the bytes of a character are enough for what it adds
record IsWide (c k : ℕ) : Type 0 where
  two : 2 ≤ k
  three : 0x800 ≤ c → 3 ≤ k
  four : 0x10000 ≤ c → 4 ≤ k

IsWide-encode : (c : ℕ) → 0xA0 < c → IsWide c (length (encode_utf8 c))
IsWide-encode c h =
    record {
      two = grind (arith, nat_tests, length-encode c);
      three = λ t. grind (arith, nat_tests, length-encode c);
      four = λ t. grind (arith, nat_tests, length-encode c);
    }

single-covered : (c k : ℕ) → IsWide c k → (single false c).0 + spare (single false c).1 ≤ k
single-covered c k w = let two = w.two in let three = w.three in grind (arith, nat_tests)

of_kind-covered : (c k : ℕ) (kind : Kind) → IsWide c k → (of_kind false c kind).0 + spare (of_kind false c kind).1 ≤ k
of_kind-covered c k kinds.Zero w = omega arith
of_kind-covered c k kinds.Narrow w = omega arith
of_kind-covered c k kinds.Wide w = omega (arith, w.two)
of_kind-covered c k kinds.Ambiguous w = omega (arith, w.two)
of_kind-covered c k kinds.Alef w = omega (arith, w.two)
of_kind-covered c k kinds.KhmerLetter w = omega (arith, w.two)
of_kind-covered c k kinds.TifinaghConsonant w = omega (arith, w.two)
of_kind-covered c k kinds.LisuTone w = omega (arith, w.two)
of_kind-covered c k kinds.RegionalIndicator w = omega (arith, w.two)
of_kind-covered c k kinds.EmojiModifier w = omega (arith, w.two)
of_kind-covered c k kinds.Emoji w = omega (arith, w.two)
of_kind-covered c k kinds.Single w = single-covered c k w

IsCovered-alone : (c k total n : ℕ) → IsWide c k → total ≤ n → IsCovered (added total (alone false c)) (n + k)
unfolding alone
IsCovered-alone c k total n w h = record { covers = omega (arith, of_kind-covered c k (kind c) w) }

-- what a join adds is at most the bytes of the character
abbrev IsRoomy : ℕ → Option (Change × After) → Type 0
IsRoomy k None = Unit {0}
IsRoomy k (Some (Three, _)) = 3 ≤ k
IsRoomy k (Some (_, _)) = Unit {0}

IsRoomy-alef : (k : ℕ) (a b : Bool) → IsRoomy k (cond a (Some (Same, Nothing)) (cond b (Some (Same, Alef)) None))
IsRoomy-alef k true b = tt
IsRoomy-alef k false true = tt
IsRoomy-alef k false false = tt

IsRoomy-even : (c k : ℕ) → IsWide c k → IsRoomy k (joins false EvenIndicatorsZwj c)
unfolding joins
IsRoomy-even c k w = let four = w.four in grind (arith, nat_tests)

joins-roomy : (after : After) (c k : ℕ) → IsWide c k → IsRoomy k (joins false after c)
unfolding joins before_alef
joins-roomy Nothing c k w = grind arith
joins-roomy LineFeed c k w = grind arith
joins-roomy EmojiModifier c k w = grind arith
joins-roomy RegionalIndicator c k w = grind arith
joins-roomy RegionalIndicators c k w = grind arith
joins-roomy Emoji c k w = grind arith
joins-roomy ZwjEmoji c k w = grind arith
joins-roomy KeycapZwjEmoji c k w = grind arith
joins-roomy IndicatorZwj c k w = grind arith
joins-roomy EvenIndicatorsZwj c k w = IsRoomy-even c k w
joins-roomy OddIndicatorsZwj c k w = grind arith
joins-roomy TagEnd c k w = grind arith
joins-roomy TagDigit1 c k w = grind arith
joins-roomy TagDigit2 c k w = grind arith
joins-roomy TagDigit3 c k w = grind arith
joins-roomy TagLetter1 c k w = grind arith
joins-roomy TagLetter2 c k w = grind arith
joins-roomy TagLetter3 c k w = grind arith
joins-roomy TagLetter4 c k w = grind arith
joins-roomy TagLetter5 c k w = grind arith
joins-roomy TagLetter6 c k w = grind arith
joins-roomy KiratE c k w = grind arith
joins-roomy KiratAi c k w = grind arith
joins-roomy Alef c k w = IsRoomy-alef k _ _
joins-roomy Solidus c k w = grind arith
joins-roomy SolidusAlef c k w = grind arith
joins-roomy Lamed c k w = grind arith
joins-roomy ZwjLamed c k w = grind arith
joins-roomy Ya c k w = grind arith
joins-roomy ZwjYa c k w = grind arith
joins-roomy VowelZwjYa c k w = grind arith
joins-roomy Tifinagh c k w = grind arith
joins-roomy ZwjTifinagh c k w = grind arith
joins-roomy JoinerTifinagh c k w = grind arith
joins-roomy LisuTone c k w = grind arith
joins-roomy OrkhonI c k w = grind arith
joins-roomy ZwjOrkhonI c k w = grind arith
joins-roomy KhmerLetter c k w = grind arith

IsCovered-joined : (c k total n : ℕ) (j : Option (Change × After)) → IsWide c k → total ≤ n → IsRoomy k j → IsCovered (joined_or total j (alone false c)) (n + k)
IsCovered-joined c k total n None w h room = IsCovered-alone c k total n w h
IsCovered-joined c k total n (Some (Less, next)) w h room = IsCovered-before _ next _ (omega arith)
IsCovered-joined c k total n (Some (Same, next)) w h room = IsCovered-before _ next _ (omega arith)
IsCovered-joined c k total n (Some (One, next)) w h room = IsCovered-before _ next _ (omega (arith, w.two))
IsCovered-joined c k total n (Some (Three, next)) w h room = IsCovered-before _ next _ (omega arith)

IsCovered-past_selectors : (c k total n : ℕ) (after : After) → IsWide c k → total ≤ n → IsCovered (past_selectors false c total after) (n + k)
unfolding past_selectors
IsCovered-past_selectors c k total n after w h =
    IsCovered-cond (skips_marks after && (c == 0x200D)) _ _ _ (λ _. IsCovered-before total (with_joiner after) _ (omega arith))
    (λ _. IsCovered-cond (skips_marks after && is_ligature_transparent c) _ _ _ (λ _. IsCovered-before total after _ (omega arith))
    (λ _. IsCovered-joined c k total n (joins false after c) w h (joins-roomy after c k w)))

IsCovered-in_context : (c k total n : ℕ) (s : State) → IsWide c k → total ≤ n → IsCovered (in_context false c total s) (n + k)
unfolding in_context
IsCovered-in_context c k total n s w h =
    let two = w.two in
    IsCovered-cond (c == 0xFE0F) _ _ _ (λ _. IsCovered-any total _ _ (omega arith))
    (λ _. IsCovered-cond (is_quote_selector false c) _ _ _ (λ _. IsCovered-any total _ _ (omega arith))
    (λ _. IsCovered-cond (not false && (c == 0xFE0E)) _ _ _ (λ _. IsCovered-any total _ _ (omega arith))
    (λ _. IsCovered-cond (s.text && is_text_presentation_base c) _ _ _ (λ _. IsCovered-before (total + 1) Nothing _ (omega arith))
    (λ _. IsCovered-cond (s.quote && is_quote c) _ _ _ (λ _. IsCovered-before (total + 2) Nothing _ (omega arith))
    (λ _. IsCovered-past_selectors c k total n s.after w h)))))

IsCovered-past_emoji : (c total n : ℕ) (s : State) → total ≤ n → IsCovered (past_emoji false c total s) (n + length (encode_utf8 c))
unfolding past_emoji
IsCovered-past_emoji c total n s h =
    let one : 1 ≤ length (encode_utf8 c) = omega (arith, length-encode c, (len_utf8_bounds c).0) in
    IsCovered-cond (c == 0x0A) _ _ _ (λ _. IsCovered-before (total + 1) LineFeed _ (omega arith))
    (λ _. IsCovered-cond ((c == 0x0D) && is_line_feed s.after) _ _ _ (λ _. IsCovered-before total Nothing _ (omega arith))
    (λ _. IsCovered-cond (nat_le c 0xA0) _ _ _ (λ _. IsCovered-before (total + 1) Nothing _ (omega arith))
    (λ e. let w = IsWide-encode c (grind (arith, nat_tests)) in
    IsCovered-cond (is_plain s) _ _ _ (λ _. IsCovered-alone c _ total n w h) (λ _. IsCovered-in_context c _ total n s w h))))

IsCovered-emoji_step : (b : Bool) (c total n : ℕ) (s : State) → s.emoji ≡ b → total + cond b 1 0 ≤ n → IsCovered (cond (not b) (past_emoji false c total s) (cond (is_emoji_variation_base c) (total + cond (is_joined_emoji s.after) 0 2, before Emoji) (past_emoji false c total (record (if_kept s) { emoji = false })))) (n + length (encode_utf8 c))
IsCovered-emoji_step false c total n s e h = IsCovered-past_emoji c total n s (omega arith)
IsCovered-emoji_step true c total n s e h =
    let one : 1 ≤ length (encode_utf8 c) = omega (arith, length-encode c, (len_utf8_bounds c).0) in
    IsCovered-cond (is_emoji_variation_base c) _ _ _
    (λ _. IsCovered-before _ Emoji _ (omega (arith, at_most_two (is_joined_emoji s.after))))
    (λ _. IsCovered-past_emoji c total n _ (omega arith))
  where
    at_most_two : (b : Bool) → cond b 0 2 ≤ 2
    at_most_two true = omega arith
    at_most_two false = omega arith

IsCovered-step : (c n : ℕ) (r : Reading) → IsCovered r n → IsCovered (step false c r) (n + length (encode_utf8 c))
unfolding step
IsCovered-step c n (total, s) h = IsCovered-emoji_step s.emoji c total n s refl h.covers

IsCovered-read_before : (cs : List ℕ) → IsCovered (read_before false cs (0, plain)) (length (encode_utf8_all cs))
IsCovered-read_before [] = record { covers = omega arith }
IsCovered-read_before (c ∷ cs) =
    let e : length (encode_utf8_all cs) + length (encode_utf8 c) ≡ length (encode_utf8_all (c ∷ cs)) = omega (arith, length-append (encode_utf8 c) (encode_utf8_all cs)) in
    subst (IsCovered (read_before false (c ∷ cs) (0, plain))) e (IsCovered-step c _ _ (IsCovered-read_before cs))

-- the columns of a text are at most its bytes
pub str_width-le : (text : List ℕ) → IsUtf8 text → str_width false (chars text) ≤ length text
unfolding str_width
str_width-le text u = omega (arith, (IsCovered-read_before (chars text)).covers, ap length (encodes-chars text u))
