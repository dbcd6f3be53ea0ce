-- The column of a fault, and what a line says.
use Rattle.std.proofs.Common.{◌≡◌, ℕ, false, inl, inr, List, [], ◌∷◌, ◌++◌, refl, sym, ◌∙◌, ap, subst, append_assoc, Result, Err}
use Rattle.std.proofs.lemmas.List.{append-nil, append_cancel_right, map-append}
use Rattle.sb_plain.specs.declared.command.Command.{Command}
use Rattle.sb_tokens.specs.declared.token.Token.{Token}
use Rattle.sb_tokens.specs.declared.token.Placed.{Placed}
use Rattle.sb_tokens.specs.declared.token.Ending.{Ending}
use Rattle.sb_tokens.specs.declared.token.Ending.TheVariants.{Whole, Stuck}
use Rattle.sb_tokens.specs.Rows.{IsRow, HasOneRow, tokens_of}
use Rattle.sb_grammar.specs.Grammar.{Spells}
use Rattle.sb_grammar.specs.Columns.{IsCommand, IsFault, Begins, Misfit, FaultBehind, Says, Bad, IsItem, is_long}
use Rattle.sb_phrases.specs.declared.fault.Fault.{Fault}
use Rattle.sb_phrases.specs.declared.fault.Fault.TheVariants as fault
use Rattle.sb_reader.specs.declared.line.LineFault.{LineFault}
use Rattle.sb_reader.specs.Outcome.{EndsAtMisfit, FaultIsMisfit}
use Rattle.sb_reader.specs.Line.{IsRead, SaysOneThing, column_at, unless_stuck, line_fault}
use Rattle.sb_reader.proofs.Whole.{one_spelled}

-- ---- where the fault is
-- what begins with more tokens begins with fewer
begins_shorter : (before more : List Token) → Begins (before ++ more) → Begins before
begins_shorter before more b = record { value = b.value; more = more ++ b.more; spelled = subst (Spells b.value) (append_assoc before more b.more) b.spelled }

-- a fault behind tokens with which some command begins is the fault behind any front of them
behind_front : (front : List Token) (ts rest : List Placed) (ending : Ending) (column : ℕ) → Begins (front ++ tokens_of ts) → FaultBehind (front ++ tokens_of ts) rest ending column → FaultBehind front (ts ++ rest) ending column
behind_front front [] rest ending column b f = subst (λ us. FaultBehind us rest ending column) (append-nil front) f
behind_front front (t ∷ ts) rest ending column b f =
    let e : front ++ t.token ∷ tokens_of ts ≡ (front ++ t.token ∷ []) ++ tokens_of ts = sym (append_assoc front (t.token ∷ []) (tokens_of ts)) in
    let longer : Begins ((front ++ t.token ∷ []) ++ tokens_of ts) = subst Begins e b in
    inr (begins_shorter (front ++ t.token ∷ []) (tokens_of ts) longer, behind_front (front ++ t.token ∷ []) ts rest ending column longer (subst (λ us. FaultBehind us rest ending column) e f))

at_misfit : (before : List Token) (rest : List Placed) (ending : Ending) → Misfit before (tokens_of rest) → FaultBehind before rest ending (column_at rest ending)
at_misfit before [] (Whole end) m = (refl, m)
at_misfit before [] (Stuck place) m = refl
at_misfit before (t ∷ rest) ending m = inl (refl, m)

misfit_fault : (tokens rest : List Placed) (ending : Ending) → EndsAtMisfit tokens rest → FaultBehind [] tokens ending (column_at rest ending)
misfit_fault tokens rest ending m =
    let split : tokens_of tokens ≡ tokens_of m.front ++ tokens_of rest = ap tokens_of m.whole ∙ map-append (λ t. t.token) m.front rest in
    let same : m.first.before ≡ tokens_of m.front = append_cancel_right m.first.before (tokens_of m.front) (tokens_of rest) (sym m.first.whole ∙ split) in
    let here : FaultBehind (tokens_of m.front) rest ending (column_at rest ending) = at_misfit (tokens_of m.front) rest ending (subst (λ us. Misfit us (tokens_of rest)) same m.first.misfit) in
    let f : FaultBehind [] (m.front ++ rest) ending (column_at rest ending) = behind_front [] m.front rest ending (column_at rest ending) (subst Begins same m.first.begins) here in
    subst (λ us. FaultBehind [] us ending (column_at rest ending)) (sym m.whole) f

stuck_fault : (tokens : List Placed) (place : ℕ) (c : Command) → Spells c (tokens_of tokens) → FaultBehind [] tokens (Stuck place) place
stuck_fault tokens place c s =
    let b : Begins (tokens_of tokens) = record { value = c; more = []; spelled = subst (Spells c) (sym (append-nil (tokens_of tokens))) s } in
    let f : FaultBehind [] (tokens ++ []) (Stuck place) place = behind_front [] tokens [] (Stuck place) place b refl in
    subst (λ us. FaultBehind [] us (Stuck place) place) (append-nil tokens) f

-- ---- what a line says
pub bad_when_stuck : (line : List ℕ) (tokens : List Placed) (place : ℕ) (c : Command) → is_long line ≡ false → IsRow line tokens (Stuck place) → Spells c (tokens_of tokens) → IsItem line (Bad place)
bad_when_stuck line tokens place c short row s = inr (short, record { tokens = tokens; ending = Stuck place; is_row = row; fault = stuck_fault tokens place c s })

pub bad_at_misfit : (line : List ℕ) (tokens rest : List Placed) (ending : Ending) (column : ℕ) → is_long line ≡ false → IsRow line tokens ending → EndsAtMisfit tokens rest → column ≡ column_at rest ending → IsItem line (Bad column)
bad_at_misfit line tokens rest ending column short row m e =
    subst (λ n. IsItem line (Bad n)) (sym e) (inr (short, record { tokens = tokens; ending = ending; is_row = row; fault = misfit_fault tokens rest ending m }))

-- ---- what is answered
pub read_whole : (line : List ℕ) (tokens : List Placed) (ending : Ending) (c : Command) (r : Result Command LineFault) → is_long line ≡ false → IsRow line tokens ending → Spells c (tokens_of tokens) → r ≡ unless_stuck c ending → IsRead line r
read_whole line tokens (Whole end) c r short row s e = subst (IsRead line) (sym e) (short, record { tokens = tokens; column = end; is_row = row; spelled = s })
read_whole line tokens (Stuck place) c r short row s e = subst (IsRead line) (sym e) (bad_when_stuck line tokens place c short row s)

pub read_fault : (line : List ℕ) (tokens : List Placed) (ending : Ending) (kind : Fault) (r : LineFault) → is_long line ≡ false → IsRow line tokens ending → FaultIsMisfit tokens (Err kind) → r ≡ line_fault kind ending → IsRead line (Err r)
read_fault line tokens ending fault.NoMemory r short row m e = subst (λ (k : LineFault). IsRead line (Err k)) (sym e) tt
read_fault line tokens ending (fault.Misfit rest) r short row m e = subst (λ (k : LineFault). IsRead line (Err k)) (sym e) (bad_at_misfit line tokens rest.now ending (column_at rest.now ending) short row m refl)

-- ---- it says one thing
-- a row of tokens has one fault
one_fault : (before : List Token) (ts : List Placed) (ending : Ending) (a b : ℕ) → FaultBehind before ts ending a → FaultBehind before ts ending b → a ≡ b
one_fault before [] (Whole end) a b x y = x.0 ∙ sym y.0
one_fault before [] (Stuck place) a b x y = x ∙ sym y
one_fault before (t ∷ ts) ending a b (inl x) (inl y) = x.0 ∙ sym y.0
one_fault before (t ∷ ts) ending a b (inl x) (inr y) = absurd (x.1 y.0)
one_fault before (t ∷ ts) ending a b (inr x) (inl y) = absurd (y.1 x.0)
one_fault before (t ∷ ts) ending a b (inr x) (inr y) = one_fault (before ++ t.token ∷ []) ts ending a b x.1 y.1

-- where all the tokens of a line spell a command, there is none
no_fault : (before : List Token) (ts : List Placed) (end column : ℕ) (c : Command) → Spells c (before ++ tokens_of ts) → FaultBehind before ts (Whole end) column → ⊥
no_fault before [] end column c s f = f.1 c (subst (Spells c) (append-nil before) s)
no_fault before (t ∷ ts) end column c s (inl f) = f.1 (record { value = c; more = tokens_of ts; spelled = subst (Spells c) (sym (append_assoc before (t.token ∷ []) (tokens_of ts))) s })
no_fault before (t ∷ ts) end column c s (inr f) = no_fault (before ++ t.token ∷ []) ts end column c (subst (Spells c) (sym (append_assoc before (t.token ∷ []) (tokens_of ts))) s) f.1

same_command : (line : List ℕ) (a b : Command) → HasOneRow line → IsCommand line a → IsCommand line b → a ≡ b
same_command line a b one x y =
    let same : x.tokens ≡ y.tokens = (one x.tokens y.tokens (Whole x.column) (Whole y.column) x.is_row y.is_row).0 in
    one_spelled (tokens_of x.tokens) a b x.spelled (subst (λ ts. Spells b (tokens_of ts)) (sym same) y.spelled)

same_fault : (line : List ℕ) (a b : ℕ) → HasOneRow line → IsFault line a → IsFault line b → a ≡ b
same_fault line a b one x y =
    let same = one x.tokens y.tokens x.ending y.ending x.is_row y.is_row in
    let f : FaultBehind [] x.tokens y.ending b = subst (λ ts. FaultBehind [] ts y.ending b) (sym same.0) y.fault in
    one_fault [] x.tokens x.ending a b x.fault (subst (λ end. FaultBehind [] x.tokens end b) (sym same.1) f)

no_command : (line : List ℕ) (c : Command) (column : ℕ) → HasOneRow line → IsCommand line c → IsFault line column → ⊥
no_command line c column one x y =
    let same = one x.tokens y.tokens (Whole x.column) y.ending x.is_row y.is_row in
    let f : FaultBehind [] x.tokens y.ending column = subst (λ ts. FaultBehind [] ts y.ending column) (sym same.0) y.fault in
    no_fault [] x.tokens x.column column c x.spelled (subst (λ end. FaultBehind [] x.tokens end column) (sym same.1) f)

pub one_item : (line : List ℕ) → HasOneRow line → SaysOneThing line
one_item line one (Says a) (Says b) x y = ap Says (same_command line a b one x.1 y.1)
one_item line one (Says a) (Bad b) x (inl y) = cc
one_item line one (Says a) (Bad b) x (inr y) = absurd (no_command line a b one x.1 y.1)
one_item line one (Bad a) (Says b) (inl x) y = cc
one_item line one (Bad a) (Says b) (inr x) y = absurd (no_command line b a one y.1 x.1)
one_item line one (Bad a) (Bad b) (inl x) (inl y) = ap Bad (x.1 ∙ sym y.1)
one_item line one (Bad a) (Bad b) (inl x) (inr y) = cc
one_item line one (Bad a) (Bad b) (inr x) (inl y) = cc
one_item line one (Bad a) (Bad b) (inr x) (inr y) = ap Bad (same_fault line a b one x.1 y.1)
