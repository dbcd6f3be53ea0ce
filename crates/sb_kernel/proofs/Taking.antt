-- What a run has done, after one byte more.
use Rattle.std.proofs.Common.{◌≡◌, ◌≢◌, ◌<◌, ◌≤◌, ◌+◌, ℕ, Result, Ok, Err, List, [], ◌∷◌, ◌++◌, length, take, drop, get_or, sym, ◌∙◌, ap, subst, append_assoc}
use Rattle.std.proofs.lemmas.List.{append-nil, take_more, take_all, take-append-drop}
use Rattle.sb_lines.specs.Lines.{whole_lines, lines_of, held_of, most_held}
use Rattle.sb_lines.proofs.CutLemmas.{whole_lines-byte, whole_lines-grow}
use Rattle.sb_lines.proofs.ItemsLemmas.{AreFirstItems-grow}
use Rattle.sb_lines.proofs.InputLemmas.{held_of-end, held_of-more, held_of-full, AreItems-ended, AreFirstItems-ended, Commands-some, Commands-none, AreFirstItems-some}
use Rattle.sb_registry.specs.Boxes.{Meanings}
use Rattle.sb_kernel.specs.declared.ending.Stop.{Stop}
use Rattle.sb_kernel.specs.declared.ending.Stop.TheVariants.{NoMemory}
use Rattle.sb_kernel.specs.World.{World, At}
use Rattle.sb_kernel.specs.Ending.{AreReplied}
use Rattle.sb_kernel.specs.Runs.{HasAnswered, HasStopped, Stands, LinesLead}
use Rattle.sb_kernel.proofs.Replied.{first_replied}
use Rattle.sb_kernel.proofs.Answered.{stops_between, HasAnswered-as, HasStopped-as}

-- ---- a byte that goes on with the line
-- it is held where there is room
pub pushed_byte : (bytes : List ℕ) (b : ℕ) (line new : List ℕ) → b ≢ 10 → length line < most_held → line ≡ held_of bytes → new ≡ line ++ b ∷ [] → new ≡ held_of (bytes ++ b ∷ [])
pushed_byte bytes b line new other room is pushed =
    pushed ∙ ap (λ (l : List ℕ). l ++ b ∷ []) is ∙ sym (held_of-more bytes b other (subst (λ (l : List ℕ). length l < most_held) is room))

pub passed_byte : (bytes : List ℕ) (b : ℕ) (line : List ℕ) → b ≢ 10 → ¬ (length line < most_held) → line ≡ held_of bytes → line ≡ held_of (bytes ++ b ∷ [])
passed_byte bytes b line other full is = is ∙ sym (held_of-full bytes b other (subst (λ (l : List ℕ). ¬ (length l < most_held)) is full))

pub goes_on_with : {B D : Type 0} (w : World B D) (m : Meanings) (bytes : List ℕ) (b : ℕ) (line new : List ℕ) (first now : At B D) → b ≢ 10 → new ≡ held_of (bytes ++ b ∷ []) → Stands w m bytes line first now → Stands w m (bytes ++ b ∷ []) new first now
goes_on_with w m bytes b line new first now other is stands = record {
  answered = subst (λ (lines : List (List ℕ)). HasAnswered w m lines first now) (sym (whole_lines-byte bytes b other)) stands.answered;
  line = is;
}

-- memory is wanting for it
pub stops_on : {B D : Type 0} (w : World B D) (m : Meanings) (bytes : List ℕ) (b : ℕ) (line : List ℕ) (first now : At B D) → b ≢ 10 → Stands w m bytes line first now → HasStopped w m NoMemory (whole_lines bytes) (whole_lines (bytes ++ b ∷ [])) first now
stops_on w m bytes b line first now other stands =
    subst (λ (lines : List (List ℕ)). HasStopped w m NoMemory (whole_lines bytes) lines first now) (append-nil (whole_lines bytes) ∙ sym (whole_lines-byte bytes b other))
    (stops_between w m (whole_lines bytes) [] first now stands.answered)

-- ---- a line end: what was held of the line was answered
pub ends_line : {B D : Type 0} (w : World B D) (m : Meanings) (bytes : List ℕ) (b : ℕ) (line new : List ℕ) (first now : At B D) → b ≡ 10 → line ≡ held_of bytes → new ≡ [] →
    HasAnswered w m (whole_lines bytes ++ line ∷ []) first now → Stands w m (bytes ++ b ∷ []) new first now
ends_line w m bytes b line new first now is held empty answered = subst (λ (c : ℕ). Stands w m (bytes ++ c ∷ []) new first now) (sym is) (record {
  answered = HasAnswered-as w m (whole_lines bytes ++ held_of bytes ∷ []) (whole_lines (bytes ++ 10 ∷ [])) first now (λ items are. AreItems-ended bytes items are)
      (subst (λ (l : List ℕ). HasAnswered w m (whole_lines bytes ++ l ∷ []) first now) held answered);
  line = empty ∙ sym (held_of-end bytes);
})

pub stops_at_end : {B D : Type 0} (w : World B D) (m : Meanings) (bytes : List ℕ) (b : ℕ) (line : List ℕ) (stop : Stop) (first now : At B D) → b ≡ 10 → line ≡ held_of bytes →
    HasStopped w m stop (whole_lines bytes) (whole_lines bytes ++ line ∷ []) first now → HasStopped w m stop (whole_lines bytes) (whole_lines (bytes ++ b ∷ [])) first now
stops_at_end w m bytes b line stop first now is held stopped =
    subst (λ (c : ℕ). HasStopped w m stop (whole_lines bytes) (whole_lines (bytes ++ c ∷ [])) first now) (sym is)
    (HasStopped-as w m stop (whole_lines bytes) (whole_lines bytes ++ held_of bytes ∷ []) (whole_lines (bytes ++ 10 ∷ [])) first now (λ items are. AreFirstItems-ended bytes items are)
    (subst (λ (l : List ℕ). HasStopped w m stop (whole_lines bytes) (whole_lines bytes ++ l ∷ []) first now) held stopped))

-- ---- the last line, which has no end
leads_to_held : {B D : Type 0} (w : World B D) (m : Meanings) (result : Result (Unit {0}) Stop) (bytes : List ℕ) (first now : At B D) → length (held_of bytes) ≢ 0 →
    LinesLead w m result (whole_lines bytes) (whole_lines bytes ++ held_of bytes ∷ []) first now → LinesLead w m result (whole_lines bytes) (lines_of bytes) first now
leads_to_held w m (Ok x) bytes first now some leads = HasAnswered-as w m (whole_lines bytes ++ held_of bytes ∷ []) (lines_of bytes) first now (λ items are. Commands-some bytes items some are) leads
leads_to_held w m (Err stop) bytes first now some leads = HasStopped-as w m stop (whole_lines bytes) (whole_lines bytes ++ held_of bytes ∷ []) (lines_of bytes) first now (λ items are. AreFirstItems-some bytes items some are) leads

pub leads_to_last : {B D : Type 0} (w : World B D) (m : Meanings) (result : Result (Unit {0}) Stop) (bytes line : List ℕ) (first now : At B D) → line ≡ held_of bytes → length line ≢ 0 →
    LinesLead w m result (whole_lines bytes) (whole_lines bytes ++ line ∷ []) first now → LinesLead w m result (whole_lines bytes) (lines_of bytes) first now
leads_to_last w m result bytes line first now is some leads =
    leads_to_held w m result bytes first now (subst (λ (l : List ℕ). length l ≢ 0) is some)
    (subst (λ (l : List ℕ). LinesLead w m result (whole_lines bytes) (whole_lines bytes ++ l ∷ []) first now) is leads)

-- where none has begun
pub has_no_last : {B D : Type 0} (w : World B D) (m : Meanings) (bytes line : List ℕ) (first now : At B D) → length line ≡ 0 → Stands w m bytes line first now → HasAnswered w m (lines_of bytes) first now
has_no_last w m bytes line first now none stands =
    HasAnswered-as w m (whole_lines bytes) (lines_of bytes) first now (λ items are. Commands-none bytes items (ap length (sym stands.line) ∙ none) are) stands.answered

-- ---- a stop stays one as more bytes come, and where fewer of them are the early ones
pub HasStopped-grow : {B D : Type 0} (w : World B D) (m : Meanings) (stop : Stop) (early some bytes more : List ℕ) (first now : At B D) →
    HasStopped w m stop (whole_lines (early ++ some)) (whole_lines bytes) first now → HasStopped w m stop (whole_lines early) (whole_lines (bytes ++ more)) first now
HasStopped-grow w m stop early some bytes more first now stopped = record {
  items = stopped.items;
  replies = stopped.replies;
  written = stopped.written;
  is_written = stopped.is_written;
  begun = stopped.begun;
  each = stopped.each;
  are_items = AreFirstItems-grow bytes more stopped.items stopped.are_items;
  are_answered = stopped.are_answered;
  on = stopped.on;
  replied = first_replied (whole_lines early) (whole_lines-grow early some).others stopped.replies stopped.written
      (subst (λ (lines : List (List ℕ)). AreReplied lines stopped.replies stopped.written) (whole_lines-grow early some).is stopped.replied);
  writes = stopped.writes;
  later = stopped.later;
  plays = stopped.plays;
  keeps = stopped.keeps;
}

-- ---- the bytes of a piece, one by one
pub piece-next : (bytes piece : List ℕ) (i : ℕ) → i < length piece → (bytes ++ take i piece) ++ get_or piece i 0 ∷ [] ≡ bytes ++ take (i + 1) piece
piece-next bytes piece i within = append_assoc bytes (take i piece) (get_or piece i 0 ∷ []) ∙ ap (λ (front : List ℕ). bytes ++ front) (sym (take_more piece i 0 within))

pub piece-others : (bytes piece : List ℕ) (i : ℕ) → i < length piece → ((bytes ++ take i piece) ++ get_or piece i 0 ∷ []) ++ drop (i + 1) piece ≡ bytes ++ piece
piece-others bytes piece i within =
    ap (λ (front : List ℕ). front ++ drop (i + 1) piece) (piece-next bytes piece i within) ∙ append_assoc bytes (take (i + 1) piece) (drop (i + 1) piece)
    ∙ ap (λ (l : List ℕ). bytes ++ l) (take-append-drop (i + 1) piece)

pub piece-all : (bytes piece : List ℕ) (i : ℕ) → length piece ≤ i → bytes ++ take i piece ≡ bytes ++ piece
piece-all bytes piece i over = ap (λ (l : List ℕ). bytes ++ l) (take_all i piece over)

-- a stop at a byte of a piece is one of the whole piece
pub stops_in_piece : {B D : Type 0} (w : World B D) (m : Meanings) (stop : Stop) (bytes piece : List ℕ) (i : ℕ) (first now : At B D) → i < length piece →
    HasStopped w m stop (whole_lines (bytes ++ take i piece)) (whole_lines ((bytes ++ take i piece) ++ get_or piece i 0 ∷ [])) first now → HasStopped w m stop (whole_lines bytes) (whole_lines (bytes ++ piece)) first now
stops_in_piece w m stop bytes piece i first now within stopped =
    subst (λ (all : List ℕ). HasStopped w m stop (whole_lines bytes) (whole_lines all) first now) (piece-others bytes piece i within)
    (HasStopped-grow w m stop bytes (take i piece) ((bytes ++ take i piece) ++ get_or piece i 0 ∷ []) (drop (i + 1) piece) first now stopped)

pub stands_behind : {B D : Type 0} (w : World B D) (m : Meanings) (bytes piece : List ℕ) (i : ℕ) (line : List ℕ) (first now : At B D) → i < length piece →
    Stands w m ((bytes ++ take i piece) ++ get_or piece i 0 ∷ []) line first now → Stands w m (bytes ++ take (i + 1) piece) line first now
stands_behind w m bytes piece i line first now within stands = subst (λ (front : List ℕ). Stands w m front line first now) (piece-next bytes piece i within) stands

pub stands_at_end : {B D : Type 0} (w : World B D) (m : Meanings) (bytes piece : List ℕ) (i : ℕ) (line : List ℕ) (first now : At B D) → length piece ≤ i →
    Stands w m (bytes ++ take i piece) line first now → Stands w m (bytes ++ piece) line first now
stands_at_end w m bytes piece i line first now over stands = subst (λ (all : List ℕ). Stands w m all line first now) (piece-all bytes piece i over) stands
