-- What is written for the parts of a program spells them, by the rules of fields.
use Rattle.std.proofs.Common.{◌≡◌, ℕ, ℤ, zero, suc, ◌+◌, ◌^◌, ◌<◌, ◌≤◌, Bool, true, false, List, [], ◌∷◌, ◌++◌, length, take, map, slice_get, get_or, All, Some, None, is_some, refl, sym, ap, subst, ◌∙◌, arith, nat_le, nat_lt, nat_eq, not, ◌&&◌}
use Rattle.std.specs.Str.{IsUtf8, bytes_eq, chars}
use Rattle.std.specs.Int.{w64, cast_signed, cast_unsigned}
use Rattle.std.proofs.lemmas.Bool.Decides.{nat_tests}
use Rattle.yarn_base.specs.Name.{is_name_of, is_variable_of}
use Rattle.yarn_value.specs.declared.base.BaseLine.{BaseLine}
use Rattle.yarn_value.specs.declared.signature.Signature.{Signature}
use Rattle.yarn_value.specs.declared.value.Kind.{Kind}
use Rattle.yarn_value.specs.declared.value.Kind.TheVariants as kind
use Rattle.yarn_value.specs.declared.value.Value.TheVariants as value
use Rattle.yarn_value.specs.Builtins.{builtin_named}
use Rattle.yarn_value.specs.Numbers.{fits}
use Rattle.yarn_value.specs.Values.{kind_of}
use Rattle.yarn_expr.specs.Word.{is_reserved}
use Rattle.yarn_code.specs.declared.program.CodeNode.{CodeNode}
use Rattle.yarn_code.specs.declared.program.Variable.{Variable}
use Rattle.yarn_code.specs.declared.program.Program.{Program}
use Rattle.yarn_code.specs.Fields.{AreUnique, IsVariableField, IsFunctionField, IsNodeField, IsLineField, names_of, function_names, titles_of, ids_of}
use Rattle.yarn_code.specs.Spelling.{Spells}
use Rattle.yarn_code.specs.Format.{IsSpelled, ◌>>=◌, Ends, U8, U32, U64, number_bytes, text_bytes, times}
use Rattle.yarn_code.specs.Layout.{any, text, kind_field, number_of_kind, kind_of_number, number_of_truth, kinds, file_name, is_mark, program_file, is_few, is_short, is_template, is_new, many, value_of, variable, is_host_name, function, instructions, node, base_line}
use Rattle.yarn_code.specs.Writing.{Writes, HasWritten}
use Rattle.yarn_code.proofs.WritingLemmas.{HasWritten-next, Writes-end, Writes-then, number_written, text_written}
use Rattle.yarn_code.proofs.CodedLemmas.{few_passes, few_byte, short_passes, short_word, truth_byte, truth_passes, truth_back, whole_back, whole_small, template_passes}

-- ---- tests

both : (a b : Bool) → a ≡ true → b ≡ true → (a && b) ≡ true
both a b p q = rw p q

not_passes : (b : Bool) → b ≡ false → not b ≡ true
not_passes b e = rw e refl

eq_nat : (a b : ℕ) → nat_eq a b ≡ true → a ≡ b
eq_nat a b e = grind (arith, nat_tests)

same_head : (a b : ℕ) (t : Bool) → (nat_eq a b && t) ≡ true → (nat_eq a b ≡ true) × (t ≡ true)
same_head a b t e = by_test (nat_eq a b) t e
  where
    by_test : (x y : Bool) → (x && y) ≡ true → (x ≡ true) × (y ≡ true)
    by_test true y e = (refl, e)
    by_test false y e = absurd cc

pub same_bytes : (a b : List ℕ) → bytes_eq a b ≡ true → a ≡ b
same_bytes [] [] e = refl
same_bytes [] (y ∷ b) e = absurd cc
same_bytes (x ∷ a) [] e = absurd cc
same_bytes (x ∷ a) (y ∷ b) e =
    let h = same_head x y (bytes_eq a b) e in
    ap (λ n. n ∷ a) (eq_nat x y h.0) ∙ ap (λ l. y ∷ l) (same_bytes a b h.1)

other_bytes : (a b : List ℕ) → (a ≡ b → ⊥) → not (bytes_eq a b) ≡ true
other_bytes a b differ = by_test (bytes_eq a b) refl
  where
    by_test : (t : Bool) → bytes_eq a b ≡ t → not t ≡ true
    by_test true e = absurd (differ (same_bytes a b e))
    by_test false e = refl

pub item_of : {A : Type 0} (P : A → Type 0) (xs : List A) (i : ℕ) (x : A) → slice_get xs i ≡ Some x → All P xs → P x
item_of P [] i x at all = absurd cc
item_of P (y ∷ xs) zero x at all = let e : y ≡ x = cc in subst P e (all 0 y (omega arith))
item_of P (y ∷ xs) (suc i) x at all = item_of P xs i x at (λ k d lt. all (suc k) d (omega (arith, lt)))

map_item : {A B : Type 0} (f : A → B) (xs : List A) (i : ℕ) (x : A) → slice_get xs i ≡ Some x → slice_get (map f xs) i ≡ Some (f x)
map_item f [] i x at = absurd cc
map_item f (y ∷ xs) zero x at = let e : y ≡ x = cc in ap (λ z. Some (f z)) e
map_item f (y ∷ xs) (suc i) x at = map_item f xs i x at

-- a name isn't among those before it
pub unique_new : {A : Type 0} (name : A → List ℕ) (xs : List A) (i : ℕ) (x : A) → AreUnique (map name xs) → slice_get xs i ≡ Some x → is_new (map name (take i xs)) (name x) ≡ true
unique_new name [] i x u at = absurd cc
unique_new name (y ∷ xs) zero x u at = refl
unique_new name (y ∷ xs) (suc i) x u at =
    both (not (bytes_eq (name y) (name x))) (is_new (map name (take i xs)) (name x))
    (other_bytes (name y) (name x) (item_of (λ other. name y ≡ other → ⊥) (map name xs) i (name x) (map_item name xs i x at) u.0))
    (unique_new name xs i x u.1 at)

names_map : (xs : List Variable) → map (λ v. v.name) xs ≡ names_of xs
names_map [] = refl
names_map (x ∷ xs) = ap (λ l. x.name ∷ l) (names_map xs)

functions_map : (xs : List Signature) → map (λ s. s.name) xs ≡ function_names xs
functions_map [] = refl
functions_map (x ∷ xs) = ap (λ l. x.name ∷ l) (functions_map xs)

titles_map : (xs : List CodeNode) → map (λ n. n.title) xs ≡ titles_of xs
titles_map [] = refl
titles_map (x ∷ xs) = ap (λ l. x.title ∷ l) (titles_map xs)

ids_map : (xs : List BaseLine) → map (λ l. l.id) xs ≡ ids_of xs
ids_map [] = refl
ids_map (x ∷ xs) = ap (λ l. x.id ∷ l) (ids_map xs)

pub variable_new : (xs : List Variable) (i : ℕ) (x : Variable) → AreUnique (names_of xs) → slice_get xs i ≡ Some x → is_new (names_of (take i xs)) x.name ≡ true
variable_new xs i x u at = subst (λ l. is_new l x.name ≡ true) (names_map (take i xs)) (unique_new (λ v. v.name) xs i x (subst AreUnique (sym (names_map xs)) u) at)

pub function_new : (xs : List Signature) (i : ℕ) (x : Signature) → AreUnique (function_names xs) → slice_get xs i ≡ Some x → is_new (function_names (take i xs)) x.name ≡ true
function_new xs i x u at = subst (λ l. is_new l x.name ≡ true) (functions_map (take i xs)) (unique_new (λ v. v.name) xs i x (subst AreUnique (sym (functions_map xs)) u) at)

pub title_new : (xs : List CodeNode) (i : ℕ) (x : CodeNode) → AreUnique (titles_of xs) → slice_get xs i ≡ Some x → is_new (titles_of (take i xs)) x.title ≡ true
title_new xs i x u at = subst (λ l. is_new l x.title ≡ true) (titles_map (take i xs)) (unique_new (λ v. v.title) xs i x (subst AreUnique (sym (titles_map xs)) u) at)

pub id_new : (xs : List BaseLine) (i : ℕ) (x : BaseLine) → AreUnique (ids_of xs) → slice_get xs i ≡ Some x → is_new (ids_of (take i xs)) x.id ≡ true
id_new xs i x u at = subst (λ l. is_new l x.id ≡ true) (ids_map (take i xs)) (unique_new (λ v. v.id) xs i x (subst AreUnique (sym (ids_map xs)) u) at)

-- ---- parts

pub kind_written : (k : Kind) (a b : List ℕ) → b ≡ a ++ number_bytes U8 (number_of_kind k) → Writes kind_field k a b
kind_written kind.Number a b e = number_written U8 (λ n. nat_le 1 n && nat_le n 3) (λ n. Ends (kind_of_number n)) 1 kind.Number a b b (omega arith) refl e (Writes-end kind.Number b)
kind_written kind.Str a b e = number_written U8 (λ n. nat_le 1 n && nat_le n 3) (λ n. Ends (kind_of_number n)) 2 kind.Str a b b (omega arith) refl e (Writes-end kind.Str b)
kind_written kind.Truth a b e = number_written U8 (λ n. nat_le 1 n && nat_le n 3) (λ n. Ends (kind_of_number n)) 3 kind.Truth a b b (omega arith) refl e (Writes-end kind.Truth b)

pub whole_written : (z : ℤ) (a b : List ℕ) → fits z ≡ true → b ≡ a ++ number_bytes U64 (cast_unsigned w64 (cast_signed w64 (cast_unsigned w64 z))) → Writes (value_of kind.Number) (value.Number z) a b
whole_written z a b fit e =
    number_written U64 any (λ n. Ends (value.Number (cast_signed w64 n))) (cast_unsigned w64 z) (value.Number z) a b b (whole_small z fit) refl
    (subst (λ k. b ≡ a ++ number_bytes U64 (cast_unsigned w64 k)) (whole_back z fit) e)
    (subst (λ k. Writes (Ends (value.Number k)) (value.Number z) b b) (sym (whole_back z fit)) (Writes-end (value.Number z) b))

pub str_written : (t : List ℕ) (a b : List ℕ) → length t ≤ 65536 → IsUtf8 t → b ≡ a ++ text_bytes t → Writes (value_of kind.Str) (value.Str t) a b
str_written t a b short utf8 e =
    text_written is_short (λ u. Ends (value.Str u)) t (value.Str t) a b b (short_word t short) utf8 (short_passes t short) e (Writes-end (value.Str t) b)

pub truth_written : (v : Bool) (a b : List ℕ) → b ≡ a ++ number_bytes U8 (number_of_truth v) → Writes (value_of kind.Truth) (value.Truth v) a b
truth_written v a b e =
    number_written U8 (λ n. nat_le n 1) (λ n. Ends (value.Truth (nat_eq n 1))) (number_of_truth v) (value.Truth v) a b b (truth_byte v) (truth_passes v) e
    (subst (λ k. Writes (Ends (value.Truth k)) (value.Truth v) b b) (sym (truth_back v)) (Writes-end (value.Truth v) b))

pub variable_written : (v : Variable) (before : List Variable) (a b c d : List ℕ) → length v.name < 2 ^ 32 → IsVariableField v → is_new (names_of before) v.name ≡ true
    → b ≡ a ++ text_bytes v.name → IsUtf8 v.name → Writes kind_field (kind_of v.initial) b c → Writes (value_of (kind_of v.initial)) v.initial c d → Writes (variable before) v a d
unfolding variable
variable_written v before a b c d short field new e utf8 kind_put value_put =
    text_written (λ t. is_variable_of (chars t) && is_new (names_of before) t) _ v.name v a b d short utf8 (both (is_variable_of (chars v.name)) (is_new (names_of before) v.name) field.named new) e
    (Writes-then kind_field (λ k. value_of k >>= λ x. Ends (record { name = v.name; initial = x })) (kind_of v.initial) v b c d kind_put
    (Writes-then (value_of (kind_of v.initial)) (λ x. Ends (record { name = v.name; initial = x })) v.initial v c d d value_put (Writes-end v d)))

none_found : (t : List ℕ) → builtin_named t ≡ None → not (is_some (builtin_named t)) ≡ true
none_found t e = rw e refl

pub function_written : (s : Signature) (before : List Signature) (a b c d e : List ℕ) → length s.name < 2 ^ 32 → IsFunctionField s → is_new (function_names before) s.name ≡ true
    → b ≡ a ++ text_bytes s.name → IsUtf8 s.name → c ≡ b ++ number_bytes U8 (length s.params) → Writes (times (length s.params) kinds []) s.params c d → Writes kind_field s.result d e → Writes (function before) s a e
unfolding function
function_written s before a b c d e short field new at utf8 at_count params result =
    text_written (λ t. is_host_name t && is_new (function_names before) t) _ s.name s a b e short utf8
    (both (is_host_name s.name) (is_new (function_names before) s.name)
    (both (is_name_of (chars s.name)) (not (is_reserved s.name) && not (is_some (builtin_named s.name))) field.named
    (both (not (is_reserved s.name)) (not (is_some (builtin_named s.name))) (not_passes (is_reserved s.name) field.free) (none_found s.name field.host))) new) at
    (number_written U8 is_few _ (length s.params) s b c e (few_byte (length s.params) field.few) (few_passes (length s.params) field.few) at_count
    (Writes-then (times (length s.params) kinds []) (λ ps. kind_field >>= λ r. Ends (record { name = s.name; params = ps; result = r })) s.params s c d e params
    (Writes-then kind_field (λ r. Ends (record { name = s.name; params = s.params; result = r })) s.result s d e e result (Writes-end s e))))

below_passes : (n m : ℕ) → n < m → nat_lt n m ≡ true
below_passes n m lt = grind (arith, nat_tests)

some_passes : (n : ℕ) → 1 ≤ n → nat_le 1 n ≡ true
some_passes n le = grind (arith, nat_tests)

pub node_written : (p : Program) (n : CodeNode) (before : List CodeNode) (a b c d e : List ℕ) → length n.title < 2 ^ 32 → length n.code < 2 ^ 32 → n.file < 2 ^ 32 → IsNodeField p n → is_new (titles_of before) n.title ≡ true
    → b ≡ a ++ text_bytes n.title → IsUtf8 n.title → c ≡ b ++ number_bytes U32 n.file → d ≡ c ++ number_bytes U32 (length n.code) → Writes (times (length n.code) instructions []) n.code d e → Writes (node (length p.files) before) n a e
unfolding node
node_written p n before a b c d e short many_code small field new at utf8 at_file at_count code =
    text_written (λ t. is_name_of (chars t) && is_new (titles_of before) t) _ n.title n a b e short utf8 (both (is_name_of (chars n.title)) (is_new (titles_of before) n.title) field.named new) at
    (number_written U32 (λ m. nat_lt m (length p.files)) _ n.file n b c e small (below_passes n.file (length p.files) field.filed) at_file
    (number_written U32 (λ m. nat_le 1 m) _ (length n.code) n c d e many_code (some_passes (length n.code) field.some) at_count
    (Writes-then (times (length n.code) instructions []) (λ l. Ends (record { title = n.title; file = n.file; code = l })) n.code n d e e code (Writes-end n e))))

pub line_written : (p : Program) (l : BaseLine) (before : List BaseLine) (a b c d e f g : List ℕ) → length l.id < 2 ^ 32 → length l.text < 2 ^ 32 → l.file < 2 ^ 32 → l.node < 2 ^ 32 → l.line < 2 ^ 32
    → IsLineField p l → is_new (ids_of before) l.id ≡ true
    → b ≡ a ++ text_bytes l.id → IsUtf8 l.id → c ≡ b ++ number_bytes U8 l.holes → d ≡ c ++ text_bytes l.text → IsUtf8 l.text
    → e ≡ d ++ number_bytes U32 l.file → f ≡ e ++ number_bytes U32 l.node → g ≡ f ++ number_bytes U32 l.line → Writes (base_line (length p.files) (length p.nodes) before) l a g
unfolding base_line
line_written p l before a b c d e f g short short_text file node line field new at utf8 at_holes at_text utf8_text at_file at_node at_line =
    text_written (λ t. nat_le 1 (length t) && is_new (ids_of before) t) _ l.id l a b g short utf8 (both (nat_le 1 (length l.id)) (is_new (ids_of before) l.id) (some_passes (length l.id) field.named) new) at
    (number_written U8 is_few _ l.holes l b c g (few_byte l.holes field.text.few) (few_passes l.holes field.text.few) at_holes
    (text_written (is_template l.holes) _ l.text l c d g short_text utf8_text (template_passes l.text l.holes field.text) at_text
    (number_written U32 (λ m. nat_lt m (length p.files)) _ l.file l d e g file (below_passes l.file (length p.files) field.filed) at_file
    (number_written U32 (λ m. nat_lt m (length p.nodes)) _ l.node l e f g node (below_passes l.node (length p.nodes) field.within) at_node
    (number_written U32 any _ l.line l f g g line refl at_line (Writes-end l g))))))

pub file_written : (name : List ℕ) (a b : List ℕ) → length name < 2 ^ 32 → IsUtf8 name → b ≡ a ++ text_bytes name → Writes (text any) name a b
file_written name a b short utf8 e = text_written any Ends name name a b b short utf8 refl e (Writes-end name b)

-- the mark as a number
abbrev mark : ℕ
mark = 1498632241

pub program_written : (p : Program) (a b c d e f : List ℕ) → a ≡ number_bytes U32 mark → Writes (many file_name) p.files a b → Writes (many variable) p.variables b c → Writes (many function) p.functions c d
    → Writes (many (node (length p.files))) p.nodes d e → Writes (many (base_line (length p.files) (length p.nodes))) p.lines e f → Spells f p
unfolding program_file
program_written p a b c d e f at files variables functions nodes lines =
    let all : Writes program_file p [] f =
    number_written U32 is_mark _ mark p [] a f (omega arith) refl at
    (Writes-then (many file_name) _ p.files p a b f files
    (Writes-then (many variable) _ p.variables p b c f variables
    (Writes-then (many function) _ p.functions p c d f functions
    (Writes-then (many (node (length p.files))) _ p.nodes p d e f nodes
    (Writes-then (many (base_line (length p.files) (length p.nodes))) _ p.lines p e f f lines (Writes-end p f)))))) in
    subst (λ l. IsSpelled program_file l p) (sym all.split) all.spelled

any_default : {A : Type 0} (xs : List A) (i : ℕ) (d e : A) → i < length xs → get_or xs i d ≡ get_or xs i e
any_default [] i d e lt = absurd (omega (arith, lt))
any_default (x ∷ xs) zero d e lt = refl
any_default (x ∷ xs) (suc i) d e lt = any_default xs i d e (omega (arith, lt))

pub kinds_next : (xs items : List Kind) (i : ℕ) (d : Kind) (old mid new : List ℕ) → items ≡ xs → i < length items → HasWritten kinds xs i old mid
    → new ≡ mid ++ number_bytes U8 (number_of_kind (get_or items i d)) → HasWritten kinds xs (i + 1) old new
kinds_next xs items i d old mid new same lt so_far e =
    HasWritten-next kinds xs items i (get_or items i d) old mid new same lt (any_default items i d (get_or items i d) lt) so_far (kind_written (get_or items i d) mid new e)
