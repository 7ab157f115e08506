-- Scripts that come in pieces.
use Rattle.std.proofs.Common.{◌≡◌, ℕ, suc, ◌+◌, ◌^◌, ◌<◌, ◌⊎◌, inl, inr, Bool, true, false, List, [], ◌∷◌, ◌++◌, Option, length, refl, sym, ap, subst, ◌∙◌, append_assoc, append-nil, length-append, arith}
use Rattle.std.proofs.KnownBytes.{Appends-nil, Appends-trans}
use Rattle.std.proofs.lemmas.List.Elements.{All-append, All-head, All-nil, All-tail}
use Rattle.std.proofs.lemmas.List.Splits.{slice_split-cons_no, slice_split-cons_yes, slice_split_at}
use Rattle.std.specs.Io.KnownBytes.{Appends}
use Rattle.std.specs.List.{onto_first, slice_split}
use Rattle.dv_wire.specs.Schedule.{World}
use Rattle.dv_scripts.specs.Inner.Pieces.{StopsIn, TakesPiece}
use Rattle.dv_scripts.specs.Script.{DoesLine, DoesLines, HasNoLf, IsBad, OpenSessions, is_lf}
use Rattle.dv_scripts.specs.Stops.{EndsAt}
use Rattle.dv_words.specs.declared.fault.ScriptFault.{ScriptFault}
use Rattle.dv_words.specs.declared.fault.ScriptFault.TheVariants.{BadLine, NoMemory}

-- ---- the first line of bytes

abbrev pub NoLf : ℕ → Type 0
NoLf b = is_lf b ≡ false

-- bytes have a first line, be it empty
pub record HasFirst (bytes : List ℕ) : Type 0 where
  pub first : List ℕ
  pub others : List (List ℕ)
  pub split : slice_split is_lf bytes ≡ first ∷ others

first_by : (byte : ℕ) (bytes : List ℕ) (b : Bool) → is_lf byte ≡ b → HasFirst bytes → HasFirst (byte ∷ bytes)
first_by byte bytes true e h = record { first = []; others = slice_split is_lf bytes; split = slice_split-cons_yes is_lf byte bytes e }
first_by byte bytes false e h = record { first = byte ∷ h.first; others = h.others; split = slice_split-cons_no is_lf byte bytes e ∙ ap (onto_first byte) h.split }

pub has_first : (bytes : List ℕ) → HasFirst bytes
has_first [] = record { first = []; others = []; split = refl }
has_first (b ∷ bytes) = first_by b bytes (is_lf b) refl (has_first bytes)

-- bytes without LF that are put before the first line belong to it
pub longer_first : (front bytes : List ℕ) → HasNoLf front → (h : HasFirst bytes) → slice_split is_lf (front ++ bytes) ≡ (front ++ h.first) ∷ h.others
longer_first [] bytes none h = h.split
longer_first (b ∷ front) bytes none h =
    slice_split-cons_no is_lf b (front ++ bytes) (All-head NoLf b front none) ∙ ap (onto_first b) (longer_first front bytes (All-tail NoLf b front none) h)

pub ended_line : (line end behind : List ℕ) → HasNoLf line → HasNoLf end → slice_split is_lf (line ++ (end ++ 10 ∷ behind)) ≡ (line ++ end) ∷ slice_split is_lf behind
ended_line line end behind clean none =
    ap (slice_split is_lf) (sym (append_assoc line end (10 ∷ behind))) ∙ slice_split_at is_lf (line ++ end) 10 behind (All-append NoLf line end clean none) refl

-- ---- lines that are done

pub DoesLines-append : (xs ys : List (List ℕ)) (a m n : OpenSessions) (s t : List ℕ) → DoesLines a xs s m → DoesLines m ys t n → DoesLines a (xs ++ ys) (s ++ t) n
DoesLines-append [] ys a m n s t h k = subst (λ said. DoesLines a ys (said ++ t) n) (sym h.0) (subst (λ from. DoesLines from ys t n) h.1 k)
DoesLines-append (x ∷ xs) ys a m n s t h k =
    (h.0, h.1, h.2 ++ t, h.3, DoesLines-append xs ys h.0 m n h.2 t h.4 k, ap (λ said. said ++ t) h.5 ∙ append_assoc h.1 h.2 t)

pub one_line : (a m : OpenSessions) (line text : List ℕ) → DoesLine a line text m → DoesLines a (line ∷ []) text m
one_line a m line text does = (m, text, [], does, (refl, refl), sym (append-nil text))

-- ---- pieces that are taken

abbrev pub Takes-nothing : (a : OpenSessions) (line : List ℕ) → TakesPiece a line [] [] a line
Takes-nothing a line = record { lines = []; split = λ after. refl; few = omega arith; done = (refl, refl) }

abbrev pub Takes-append : (xs ys : List ℕ) (a m n : OpenSessions) (line mid kept s t : List ℕ) → TakesPiece a line xs s m mid → TakesPiece m mid ys t n kept → TakesPiece a line (xs ++ ys) (s ++ t) n kept
Takes-append xs ys a m n line mid kept s t h k = record {
  lines = h.lines ++ k.lines;
  split = λ after.
      ap (λ bytes. slice_split is_lf (line ++ bytes)) (append_assoc xs ys after) ∙ h.split (ys ++ after)
      ∙ ap (λ others. h.lines ++ others) (k.split after) ∙ sym (append_assoc h.lines k.lines (slice_split is_lf (kept ++ after)));
  few = omega (arith, h.few, k.few, length-append h.lines k.lines, length-append xs ys);
  done = DoesLines-append h.lines k.lines a m n s t h.done k.done;
}

-- a line that ends is done
abbrev pub Takes-line : (xs : List ℕ) (a m : OpenSessions) (line text : List ℕ) → HasNoLf line → HasNoLf xs → DoesLine a (line ++ xs) text m → TakesPiece a line (xs ++ 10 ∷ []) text m []
Takes-line xs a m line text clean none does = record {
  lines = (line ++ xs) ∷ [];
  split = λ after. ap (λ bytes. slice_split is_lf (line ++ bytes)) (append_assoc xs (10 ∷ []) after) ∙ ended_line line xs after clean none;
  few = omega (arith, length-append xs (10 ∷ []));
  done = one_line a m (line ++ xs) text does;
}

-- ---- a piece of which a front was taken

pub record TakenSoFar (old : OpenSessions) (number : ℕ) (line piece : List ℕ) (before : Option (List ℕ)) (rest : List ℕ) (after : Option (List ℕ)) (now : OpenSessions) (number_now : ℕ) (line_now : List ℕ) : Type 0 where
  pub front : List ℕ
  pub said : List ℕ
  pub whole : piece ≡ front ++ rest
  pub appended : Appends before after said
  pub taken : TakesPiece old line front said now line_now
  pub number_is : number_now ≡ number + length taken.lines
  pub clean : HasNoLf line_now

pub nothing_taken : (old : OpenSessions) (number : ℕ) (line piece : List ℕ) (before : Option (List ℕ)) → HasNoLf line → TakenSoFar old number line piece before piece before old number line
nothing_taken old number line piece before clean =
    let none : length (Takes-nothing old line).lines ≡ 0 = refl in
    record { front = []; said = []; whole = refl; appended = Appends-nil before; taken = Takes-nothing old line; number_is = omega (arith, none); clean = clean }

module _ (old now : OpenSessions) (number number_now : ℕ) (line piece rest line_now : List ℕ) (before mid : Option (List ℕ))
    (so_far : TakenSoFar old number line piece before rest mid now number_now line_now) where
  -- no line ends in the rest, which is kept
  pub rest_taken : (new : OpenSessions) (number_new : ℕ) (kept : List ℕ) → new ≡ now → number_new ≡ number_now → kept ≡ line_now ++ rest
      → (takes : TakesPiece old line piece so_far.said new kept) × (number_new ≡ number + length takes.lines)
  rest_taken new number_new kept same same_number whole_line = (
    record {
      lines = so_far.taken.lines;
      split = λ after.
          ap (λ bytes. slice_split is_lf (line ++ (bytes ++ after))) so_far.whole
          ∙ ap (λ bytes. slice_split is_lf (line ++ bytes)) (append_assoc so_far.front rest after) ∙ so_far.taken.split (rest ++ after)
          ∙ ap (λ bytes. so_far.taken.lines ++ slice_split is_lf bytes) (sym (append_assoc line_now rest after))
          ∙ ap (λ bytes. so_far.taken.lines ++ slice_split is_lf (bytes ++ after)) (sym whole_line);
      few = omega (arith, so_far.taken.few, ap length so_far.whole, length-append so_far.front rest);
      done = subst (λ n. DoesLines old so_far.taken.lines so_far.said n) (sym same) so_far.taken.done;
    },
    same_number ∙ so_far.number_is,
  )

  pub clean_still : HasNoLf rest → HasNoLf (line_now ++ rest)
  clean_still none = All-append NoLf line_now rest so_far.clean none

  -- the script ends at the line that the rest begins with
  module _ (fault : ScriptFault) (part : List ℕ) (new : World) where
    stops_at : ((after : List ℕ) → (last : List ℕ) × (others : List (List ℕ)) × (slice_split is_lf (line_now ++ (rest ++ after)) ≡ last ∷ others) × EndsAt fault now number_now last part new)
        → StopsIn fault old number line piece (so_far.said ++ part) new
    stops_at ends = record {
      lines = so_far.taken.lines;
      said = so_far.said;
      mid = now;
      done = so_far.taken.done;
      part = part;
      written = refl;
      ends = λ after.
          let next = ends after in (
            next.0,
            next.1,
            ap (λ bytes. slice_split is_lf (line ++ (bytes ++ after))) so_far.whole
                ∙ ap (λ bytes. slice_split is_lf (line ++ bytes)) (append_assoc so_far.front rest after) ∙ so_far.taken.split (rest ++ after)
                ∙ ap (λ others. so_far.taken.lines ++ others) next.2,
            subst (λ n. EndsAt fault now n next.0 part new) so_far.number_is next.3,
          );
    }

    pub stops_in : (after : Option (List ℕ)) → Appends mid after part
        → ((tail : List ℕ) → (last : List ℕ) × (others : List (List ℕ)) × (slice_split is_lf (line_now ++ (rest ++ tail)) ≡ last ∷ others) × EndsAt fault now number_now last part new)
        → (said : List ℕ) × Appends before after said × StopsIn fault old number line piece said new
    stops_in after appended ends = (so_far.said ++ part, Appends-trans before mid after so_far.said part so_far.appended appended, stops_at ends)

    -- where its LF was read
    pub stops_ended : (end behind : List ℕ) → rest ≡ end ++ 10 ∷ behind → HasNoLf end → EndsAt fault now number_now (line_now ++ end) part new
        → (after : Option (List ℕ)) → Appends mid after part → (said : List ℕ) × Appends before after said × StopsIn fault old number line piece said new
    stops_ended end behind cut none why after appended =
        let split : (tail : List ℕ) → slice_split is_lf (line_now ++ (rest ++ tail)) ≡ (line_now ++ end) ∷ slice_split is_lf (behind ++ tail) = λ tail.
        ap (λ bytes. slice_split is_lf (line_now ++ bytes)) (ap (λ bytes. bytes ++ tail) cut ∙ append_assoc end (10 ∷ behind) tail) ∙ ended_line line_now end (behind ++ tail) so_far.clean none in
        stops_in after appended (λ tail. (line_now ++ end, slice_split is_lf (behind ++ tail), split tail, why))

    -- and where it wasn't
    pub stops_open : HasNoLf rest → ((more : List ℕ) → EndsAt fault now number_now ((line_now ++ rest) ++ more) part new)
        → (after : Option (List ℕ)) → Appends mid after part → (said : List ℕ) × Appends before after said × StopsIn fault old number line piece said new
    stops_open none why after appended =
        let next = has_first in
        let split : (tail : List ℕ) → slice_split is_lf (line_now ++ (rest ++ tail)) ≡ ((line_now ++ rest) ++ (next tail).first) ∷ (next tail).others = λ tail.
        ap (slice_split is_lf) (sym (append_assoc line_now rest tail)) ∙ longer_first (line_now ++ rest) tail (clean_still none) (next tail) in
        stops_in after appended (λ tail. ((line_now ++ rest) ++ (next tail).first, (next tail).others, split tail, why (next tail).first))

  -- another line ends in the rest
  module _ (end behind : List ℕ) (cut : rest ≡ end ++ 10 ∷ behind) (none : HasNoLf end) where
    pub numbers_left : number + length piece < 2 ^ 64 → suc number_now < 2 ^ 64
    numbers_left room =
        omega (arith, room, so_far.number_is, so_far.taken.few, ap length so_far.whole, length-append so_far.front rest, ap length cut, length-append end (10 ∷ behind))

    -- it is kept first
    module _ (kept : OpenSessions) (number_kept : ℕ) (line_kept : List ℕ) (same : kept ≡ now) (same_number : number_kept ≡ number_now) (whole_line : line_kept ≡ line_now ++ end) where
      -- and is done
      pub line_taken : (new : OpenSessions) (text : List ℕ) (after : Option (List ℕ)) (number_new : ℕ) (line_new : List ℕ) → Appends mid after text → DoesLine kept line_kept text new
          → number_new ≡ suc number_kept → line_new ≡ [] → TakenSoFar old number line piece before behind after new number_new line_new
      line_taken new text after number_new line_new appended does more none_new =
          let this = subst (λ from. DoesLine from (line_now ++ end) text new) same (subst (λ l. DoesLine kept l text new) whole_line does) in
          let one = Takes-line end now new line_now text so_far.clean none this in
          let both : TakesPiece old line (so_far.front ++ (end ++ 10 ∷ [])) (so_far.said ++ text) new [] = Takes-append so_far.front (end ++ 10 ∷ []) old now new line line_now [] so_far.said text so_far.taken one in
          let lines : length both.lines ≡ length (so_far.taken.lines ++ (line_now ++ end) ∷ []) = refl in
          subst (λ l. TakenSoFar old number line piece before behind after new number_new l) (sym none_new) (record {
            front = so_far.front ++ (end ++ 10 ∷ []);
            said = so_far.said ++ text;
            whole = so_far.whole ∙ ap (λ bytes. so_far.front ++ bytes) (cut ∙ sym (append_assoc end (10 ∷ []) behind)) ∙ sym (append_assoc so_far.front (end ++ 10 ∷ []) behind);
            appended = Appends-trans before mid after so_far.said text so_far.appended appended;
            taken = both;
            number_is = omega (arith, lines, more, same_number, so_far.number_is, length-append so_far.taken.lines ((line_now ++ end) ∷ []));
            clean = All-nil NoLf;
          })

      -- or ends the script
      pub line_stops : (fault : ScriptFault) (part : List ℕ) (new : World) (after : Option (List ℕ)) → EndsAt fault kept number_kept line_kept part new → Appends mid after part
          → (said : List ℕ) × Appends before after said × StopsIn fault old number line piece said new
      line_stops fault part new after why appended =
          stops_ended fault part new end behind cut none (subst (λ from. EndsAt fault from number_now (line_now ++ end) part new) same
          (subst (λ n. EndsAt fault kept n (line_now ++ end) part new) same_number (subst (λ l. EndsAt fault kept number_kept l part new) whole_line why))) after appended

-- ---- a line that isn't kept

too_long : (line part more : List ℕ) → 131200 < length line + length part → IsBad ((line ++ part) ++ more)
too_long line part more long meant is = omega (arith, is.limit, long, length-append (line ++ part) more, length-append line part)

-- it is too long, or there is no memory for it, whatever else it contains
pub not_kept : (fault : ScriptFault) (now : OpenSessions) (number : ℕ) (line part : List ℕ) → (fault ≡ BadLine number) ⊎ (fault ≡ NoMemory)
    → (fault ≡ BadLine number → 131200 < length line + length part) → (more : List ℕ) → EndsAt fault now number ((line ++ part) ++ more) [] now.hub
not_kept fault now number line part (inl e) long more =
    subst (λ f. EndsAt f now number ((line ++ part) ++ more) [] now.hub) (sym e) (refl, too_long line part more (long e), refl, refl)
not_kept fault now number line part (inr e) long more = subst (λ f. EndsAt f now number ((line ++ part) ++ more) [] now.hub) (sym e) (refl, inl (refl, refl))
