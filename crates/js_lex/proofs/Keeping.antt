-- How what is kept grows.
use Rattle.std.proofs.Common.{◌≡◌, ◌∙◌, List, [], ◌++◌, sym, ap, append_assoc, append-nil, refl}
use Rattle.std.specs.Prelude.{Result, Ok, Err, OnErr}
use Rattle.js_base.specs.declared.span.Span.{Span}
use Rattle.js_base.specs.declared.token.Token.{Token}
use Rattle.js_base.specs.declared.diagnostic.Diagnostic.{Diagnostic}
use Rattle.js_lex.specs.declared.comment.Comment.{Comment}
use Rattle.js_lex.specs.declared.output.LexerOutput.{LexerOutput}
use Rattle.js_lex.specs.Kept.{Grows, Extends}

none_more : {X : Type 0} {a b : List X} → b ≡ a → b ≡ a ++ []
none_more {a = a} e = e ∙ sym (append-nil a)

-- lists that stay as they were
pub keeps : (old new : LexerOutput) → new.comments ≡ old.comments → new.irregular_whitespaces ≡ old.irregular_whitespaces → new.tokens ≡ old.tokens → new.errors ≡ old.errors → Extends old new
keeps old new a b c d = record { comments = []; blanks = []; tokens = []; faults = []; grows = record { comments_grow = none_more a; blanks_grow = none_more b; tokens_grow = none_more c; faults_grow = none_more d } }

pub grown : {old new : LexerOutput} {cs : List Comment} {ws : List Span} {ts : List Token} {ds : List Diagnostic} → Grows old new cs ws ts ds → Extends old new
grown {cs = cs} {ws = ws} {ts = ts} {ds = ds} g = record { comments = cs; blanks = ws; tokens = ts; faults = ds; grows = g }

pub twice : {X : Type 0} (a b c x y : List X) → b ≡ a ++ x → c ≡ b ++ y → c ≡ a ++ (x ++ y)
twice a b c x y e f = f ∙ ap (λ l. l ++ y) e ∙ append_assoc a x y

-- to grow and to grow on
pub grow_on : {old mid new : LexerOutput} {cs es : List Comment} {ws us : List Span} {ts vs : List Token} {ds fs : List Diagnostic} → Grows old mid cs ws ts ds → Grows mid new es us vs fs → Grows old new (cs ++ es) (ws ++ us) (ts ++ vs) (ds ++ fs)
grow_on {cs = cs} {es = es} {ws = ws} {us = us} {ts = ts} {vs = vs} {ds = ds} {fs = fs} g h = record { comments_grow = twice _ _ _ cs es g.comments_grow h.comments_grow; blanks_grow = twice _ _ _ ws us g.blanks_grow h.blanks_grow; tokens_grow = twice _ _ _ ts vs g.tokens_grow h.tokens_grow; faults_grow = twice _ _ _ ds fs g.faults_grow h.faults_grow }

pub extend_on : {old mid new : LexerOutput} {cs : List Comment} {ws : List Span} {ts : List Token} {ds : List Diagnostic} → Grows old mid cs ws ts ds → Extends mid new → Extends old new
extend_on g h = grown (grow_on g h.grows)

pub on_err : {A B : Type 0} (r : Result A B) {P : Type 0} → P → OnErr r P
on_err (Ok v) p = tt
on_err (Err e) p = p

-- after want of memory the faults are those of before
pub faults_on_err : {A B : Type 0} (r : Result A B) (o : LexerOutput) (new : List Diagnostic) → OnErr r (new ≡ o.errors) → OnErr r (Extends o (record { comments = o.comments; irregular_whitespaces = o.irregular_whitespaces; tokens = o.tokens; errors = new }))
faults_on_err (Ok v) o new e = tt
faults_on_err (Err x) o new e = keeps _ _ refl refl refl e
