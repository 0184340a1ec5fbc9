-- Texts that are written in parts.
use Rattle.std.proofs.Common.{◌≡◌, ℕ, suc, ◌+◌, ◌-◌, ◌^◌, ◌<◌, ◌≤◌, min, arith, List, [], ◌∷◌, ◌++◌, length, get_or, drop, drop-cons, Option, Some, None, Result, Ok, Err, slice_get, sym, ◌∙◌, ap, subst, add-one, append_assoc, length-append}
use Rattle.std.specs.Prelude.{OnErr}
use Rattle.std.proofs.Math.Nat.{le-min, min-le_left, min-le_right}
use Rattle.std.proofs.lemmas.Grind.{flat_map-append}
use Rattle.std.proofs.lemmas.List.{append-nil, drop_all}
use Rattle.std.proofs.lemmas.Option.{get_or_from_slice_get, slice_get_within}
use Rattle.std.specs.Io.KnownBytes.{Appends}
use Rattle.record_core.specs.Numbers.{by_number}
use Rattle.tool_io.specs.declared.failed.Failed.{Failed}
use Rattle.tool_io.specs.Count.{Rose}
use Rattle.tool_io.specs.Seen.{SinkSeen}
use Rattle.tool_io.specs.Sink.{AddsFront, AppendsAllBut, AppendsPrefix}
use Rattle.tool_io.proofs.Appended.{appends_then}
use Rattle.run_report.specs.Lines.{Words, line_text, text_of, lines_of_each}
use Rattle.run_report.specs.Writing.{Writes}

-- a count that has not fallen and then rose has risen
rose_from : (was middle is : ℕ) → was ≤ middle → Rose middle is → Rose was is
rose_from was middle is up rose =
    let one : min (was + 1) (2 ^ 64 - 1) ≤ was + 1 = min-le_left (was + 1) (2 ^ 64 - 1) in
    let two : min (was + 1) (2 ^ 64 - 1) ≤ 2 ^ 64 - 1 = min-le_right (was + 1) (2 ^ 64 - 1) in
    let both : min (was + 1) (2 ^ 64 - 1) ≤ min (middle + 1) (2 ^ 64 - 1) = le-min (omega (arith, one, up)) two in
    omega (arith, both, rose)

-- a front of a text is a front of what goes on after it
front_of_more : (old new : Option (List ℕ)) (text more : List ℕ) → AppendsPrefix old new text → AppendsPrefix old new (text ++ more)
front_of_more old new text more p = (
  p.0 ++ more,
  (let both : length (p.0 ++ more) ≡ length p.0 + length more = length-append p.0 more in omega (arith, both, p.1)),
  record {
    front = p.2.front;
    split = ap (λ z. z ++ more) p.2.split ∙ append_assoc p.2.front p.0 more;
    taken = p.2.taken;
  },
)

-- a text that was taken and then a front of another
front_after : (old middle new : Option (List ℕ)) (text next : List ℕ) → Appends old middle text → AppendsPrefix middle new next → AppendsPrefix old new (text ++ next)
front_after old middle new text next a p = (
  p.0,
  p.1,
  record {
    front = text ++ p.2.front;
    split = ap (λ z. text ++ z) p.2.split ∙ sym (append_assoc text p.2.front p.0);
    taken = appends_then old middle new text p.2.front a p.2.taken;
  },
)

-- a text that was written, and then another
pub writes_then : (was middle is : SinkSeen) (text next : List ℕ) (result : Result (Unit {0}) Failed)
    → Writes was middle text (Ok tt) → Writes middle is next result → Writes was is (text ++ next) result
writes_then was middle is text next (Ok x) first then =
    (appends_then was.taken middle.taken is.taken text next first.0 then.0, omega (arith, first.1, then.1))
writes_then was middle is text next (Err x) first then =
    (front_after was.taken middle.taken is.taken text next first.0 then.0, rose_from was.faults middle.faults is.faults first.1 then.1)

-- what stops the first part of a text stops it whole
pub writes_stop : (was is : SinkSeen) (text next : List ℕ) (error : Failed)
    → Writes was is text (Err error) → Writes was is (text ++ next) (Err error)
writes_stop was is text next error w = (front_of_more was.taken is.taken text next w.0, w.1)

-- no text is written by no call
append_none : (old : Option (List ℕ)) → Appends old old []
append_none None = tt
append_none (Some bytes) = sym (append-nil bytes)

pub writes_none : (was : SinkSeen) → Writes was was [] (Ok tt)
writes_none was = (append_none was.taken, omega arith)

-- ---- loops

-- so much of the whole was written, and the rest is left
pub record Left (was is : SinkSeen) (whole rest : List ℕ) : Type 0 where
  pub taken : AppendsAllBut was.taken is.taken whole rest
  pub never_fell : was.faults ≤ is.faults

-- the text of the items from a place on
abbrev pub rest_of : {A : Type 0} → (ℕ → A → List Words) → ℕ → List A → ℕ → List ℕ
rest_of lines_of first xs at = text_of (lines_of_each lines_of (first + at) (drop at xs))

-- before the first part all is left
pub left_start : (was : SinkSeen) (whole rest : List ℕ) → whole ≡ rest → Left was was whole rest
left_start was whole rest same = record {
  taken = record { front = []; split = same; taken = append_none was.taken };
  never_fell = omega arith;
}

-- one part more was written
pub left_step : (was middle is : SinkSeen) (whole rest part next : List ℕ)
    → Left was middle whole rest → rest ≡ part ++ next → Writes middle is part (Ok tt) → Left was is whole next
left_step was middle is whole rest part next so_far split w = record {
  taken = record {
    front = so_far.taken.front ++ part;
    split = so_far.taken.split ∙ (ap (λ z. so_far.taken.front ++ z) split ∙ sym (append_assoc so_far.taken.front part next));
    taken = appends_then was.taken middle.taken is.taken so_far.taken.front part so_far.taken.taken w.0;
  };
  never_fell = omega (arith, so_far.never_fell, w.1);
}

-- the next part stopped the whole
pub left_stop : (was middle is : SinkSeen) (whole rest part next : List ℕ) (error : Failed)
    → Left was middle whole rest → rest ≡ part ++ next → Writes middle is part (Err error) → Writes was is whole (Err error)
left_stop was middle is whole rest part next error so_far split w =
    let p : AppendsPrefix was.taken is.taken (so_far.taken.front ++ (part ++ next)) =
    front_after was.taken middle.taken is.taken so_far.taken.front (part ++ next) so_far.taken.taken (front_of_more middle.taken is.taken part next w.0) in
    let same : whole ≡ so_far.taken.front ++ (part ++ next) = so_far.taken.split ∙ ap (λ z. so_far.taken.front ++ z) split in
    (subst (λ z. AppendsPrefix was.taken is.taken z) (sym same) p, rose_from was.faults middle.faults is.faults so_far.never_fell w.1)

-- nothing is left
pub left_end : (was is : SinkSeen) (whole rest : List ℕ) → Left was is whole rest → rest ≡ [] → Writes was is whole (Ok tt)
left_end was is whole rest so_far none =
    let same : whole ≡ so_far.taken.front = so_far.taken.split ∙ (ap (λ z. so_far.taken.front ++ z) none ∙ append-nil so_far.taken.front) in
    (subst (λ z. Appends was.taken is.taken z) (sym same) so_far.taken.taken, so_far.never_fell)

-- a list from a place on begins with what stands there
pub drop_at : {X : Type 0} (at : ℕ) (xs : List X) (x : X) → slice_get xs at ≡ Some x → drop at xs ≡ x ∷ drop (at + 1) xs
drop_at at xs x is =
    let within : at < length xs = slice_get_within xs at x is in
    let same : get_or xs at x ≡ x = get_or_from_slice_get xs at x x is in
    drop-cons xs at x within ∙ (ap (λ y. y ∷ drop (suc at) xs) same ∙ ap (λ n. x ∷ drop n xs) (sym (add-one at)))

module _ {A : Type 0} (lines_of : ℕ → A → List Words) (first : ℕ) (xs : List A) where
  rest_start : text_of (lines_of_each lines_of first xs) ≡ rest_of lines_of first xs 0
  rest_start = ap (λ n. text_of (lines_of_each lines_of n xs)) (omega arith)

  rest_step : (at : ℕ) (x : A) → slice_get xs at ≡ Some x
      → rest_of lines_of first xs at ≡ text_of (lines_of (first + at) x) ++ rest_of lines_of first xs (at + 1)
  rest_step at x is =
      let later : suc (first + at) ≡ first + (at + 1) = omega arith in
      ap (λ ys. text_of (lines_of_each lines_of (first + at) ys)) (drop_at at xs x is)
      ∙ (flat_map-append line_text (lines_of (first + at) x) (lines_of_each lines_of (suc (first + at)) (drop (at + 1) xs))
      ∙ ap (λ n. text_of (lines_of (first + at) x) ++ text_of (lines_of_each lines_of n (drop (at + 1) xs))) later)

  rest_end : (at : ℕ) → length xs ≤ at → rest_of lines_of first xs at ≡ []
  rest_end at past = ap (λ ys. text_of (lines_of_each lines_of (first + at) ys)) (drop_all at xs past)

  -- before the first item all is left
  pub each_start : (was : SinkSeen) → Left was was (text_of (lines_of_each lines_of first xs)) (rest_of lines_of first xs 0)
  each_start was = left_start was (text_of (lines_of_each lines_of first xs)) (rest_of lines_of first xs 0) rest_start

  next_part : (at number : ℕ) (x : A) (part : List ℕ) → number ≡ first + at → slice_get xs at ≡ Some x → part ≡ text_of (lines_of number x)
      → rest_of lines_of first xs at ≡ part ++ rest_of lines_of first xs (at + 1)
  next_part at number x part numbered there same =
      rest_step at x there ∙ ap (λ z. z ++ rest_of lines_of first xs (at + 1)) (sym (same ∙ ap (λ n. text_of (lines_of n x)) numbered))

  -- one item more was written
  pub each_step : (was middle is : SinkSeen) (whole part : List ℕ) (at number : ℕ) (x : A)
      → Left was middle whole (rest_of lines_of first xs at) → number ≡ first + at → slice_get xs at ≡ Some x → part ≡ text_of (lines_of number x)
      → Writes middle is part (Ok tt) → Left was is whole (rest_of lines_of first xs (at + 1))
  each_step was middle is whole part at number x so_far numbered there same w =
      left_step was middle is whole (rest_of lines_of first xs at) part (rest_of lines_of first xs (at + 1)) so_far (next_part at number x part numbered there same) w

  -- the next item stopped the whole
  pub each_stop : (was middle is : SinkSeen) (whole part : List ℕ) (at number : ℕ) (x : A) (error : Failed)
      → Left was middle whole (rest_of lines_of first xs at) → number ≡ first + at → slice_get xs at ≡ Some x → part ≡ text_of (lines_of number x)
      → Writes middle is part (Err error) → Writes was is whole (Err error)
  each_stop was middle is whole part at number x error so_far numbered there same w =
      left_stop was middle is whole (rest_of lines_of first xs at) part (rest_of lines_of first xs (at + 1)) error so_far (next_part at number x part numbered there same) w

  -- after the last item the whole was written
  pub each_end : (was is : SinkSeen) (whole : List ℕ) (at : ℕ) → Left was is whole (rest_of lines_of first xs at) → length xs ≤ at
      → Writes was is whole (Ok tt)
  each_end was is whole at so_far past = left_end was is whole (rest_of lines_of first xs at) so_far (rest_end at past)

-- the same text in other words
pub writes_as : (was is : SinkSeen) (text other : List ℕ) (result : Result (Unit {0}) Failed) → text ≡ other → Writes was is text result → Writes was is other result
writes_as was is text other result same w = subst (λ z. Writes was is z result) same w

-- a line alone
pub one_line : (words : Words) → line_text words ≡ text_of (words ∷ [])
one_line words = sym (append-nil (line_text words))

-- the row of a number stands one place earlier
pub place_of : {X : Type 0} (xs : List X) (at number : ℕ) (x : X) → number ≡ at + 1 → by_number xs number ≡ Some x → slice_get xs at ≡ Some x
place_of xs at number x is there = let same : number ≡ suc at = is ∙ add-one at in subst (λ n. by_number xs n ≡ Some x) same there

-- ---- one line after another, and one section after another

-- a line was written, and then the lines after it
pub then_line : (was middle is : SinkSeen) (words made : Words) (next : List Words) (result : Result (Unit {0}) Failed) → made ≡ words
    → Writes was middle (line_text made) (Ok tt) → Writes middle is (text_of next) result → Writes was is (text_of (words ∷ next)) result
then_line was middle is words made next result same first then =
    writes_then was middle is (line_text words) (text_of next) result (subst (λ w. Writes was middle (line_text w) (Ok tt)) same first) then

-- a line stopped the whole
pub stop_line : (was is : SinkSeen) (words made : Words) (next : List Words) (error : Failed) → made ≡ words
    → Writes was is (line_text made) (Err error) → Writes was is (text_of (words ∷ next)) (Err error)
stop_line was is words made next error same w =
    writes_stop was is (line_text words) (text_of next) error (subst (λ z. Writes was is (line_text z) (Err error)) same w)

-- the last line
pub last_line : (was is : SinkSeen) (words : Words) (text : List ℕ) (result : Result (Unit {0}) Failed) → text ≡ line_text words → Writes was is text result
    → Writes was is (text_of (words ∷ [])) result
last_line was is words text result same w = writes_as was is text (text_of (words ∷ [])) result (same ∙ one_line words) w

-- some lines were written, and then others
pub then_lines : (was middle is : SinkSeen) (lines next : List Words) (result : Result (Unit {0}) Failed)
    → Writes was middle (text_of lines) (Ok tt) → Writes middle is (text_of next) result → Writes was is (text_of (lines ++ next)) result
then_lines was middle is lines next result first then =
    writes_as was is (text_of lines ++ text_of next) (text_of (lines ++ next)) result (sym (flat_map-append line_text lines next))
    (writes_then was middle is (text_of lines) (text_of next) result first then)

-- some lines stopped the whole
pub stop_lines : (was is : SinkSeen) (lines next : List Words) (error : Failed)
    → Writes was is (text_of lines) (Err error) → Writes was is (text_of (lines ++ next)) (Err error)
stop_lines was is lines next error w =
    writes_as was is (text_of lines ++ text_of next) (text_of (lines ++ next)) (Err error) (sym (flat_map-append line_text lines next))
    (writes_stop was is (text_of lines) (text_of next) error w)

-- a call that failed wrote a front
pub front_written : (was is : SinkSeen) (text : List ℕ) (result : Result (Unit {0}) Failed) → Writes was is text result → OnErr result (AddsFront was is text)
front_written was is text (Ok x) w = tt
front_written was is text (Err error) w = w.0
