-- Light statements that are typed, not too deep and not too many have room.
use Rattle.std.proofs.Common.{◌≡◌, ℕ, suc, ◌+◌, ◌<◌, ◌≤◌, List, length, nat_lt, nat_eq, if◌then◌else◌, Option, Some, None, is_some, refl, ap, arith, Bool, true, false}
use Rattle.std.specs.List.{list_all}
use Rattle.std.specs.Option.{option_or}
use Rattle.std.proofs.lemmas.Bool.{and_parts}
use Rattle.std.proofs.lemmas.Bool.Decides.{nat_tests}
use Rattle.yarn_value.specs.declared.value.Kind.{Kind}
use Rattle.yarn_value.specs.declared.value.Kind.TheVariants as kind
use Rattle.yarn_value.specs.declared.signature.Signature.{Signature}
use Rattle.yarn_expr.specs.declared.tree.BinaryOp.{BinaryOp}
use Rattle.yarn_expr.specs.declared.tree.Expr.{Expr}
use Rattle.yarn_blocks.specs.declared.entry.Simple.{Simple}
use Rattle.yarn_blocks.specs.declared.entry.Simple.TheVariants as simple
use Rattle.yarn_blocks.specs.Tree as T
use Rattle.yarn_blocks.specs.Tree.{Leaf, Group, Choice, Nil, Cons, NoOptions, AndOption, NoClauses, AndClause, NoElse, ElseOf, over_64, behind_64, deep_in, deep_one, deep_options, deep_clauses, deep_last, crowd_in, crowd_one, crowd_options, crowd_clauses, crowd_last}
use Rattle.yarn_types.specs.Typings.{kinds_in}
use Rattle.yarn_types.specs.Units.{kind_set}
use Rattle.yarn_types.specs.Fits.{kind_of, joined}
use Rattle.yarn_compile.specs.Code.{Terms, kind_of_name}
use Rattle.yarn_kinds.specs.Typed.{variables_in}
use Rattle.yarn_kinds.proofs.Fitting.{FitsLine, offer_asks, FitsSimple, FitsAll, FitsOne, FitsOptions, FitsClauses, FitsLast}
use Rattle.yarn_compile.proofs.Parts.{Each}
use Rattle.yarn_compile.proofs.Calls.{eq_kinds, its_kind_only}
use Rattle.yarn_compile.proofs.ExpressionShapes.{need}
use Rattle.yarn_compile.proofs.Levels.{need_bound, needs_bound}
use Rattle.yarn_compile.proofs.Light.{LightExpr, LightAll, LightIf, LightSimple, Light, LightOne, LightOptions, LightClauses, LightLast}
use Rattle.yarn_compile.proofs.Room.{needs_of, set_need, simple_need, offered_need, option_count, HasRoom, HasRoomOne, HasRoomOptions, HasRoomClauses, HasRoomLast}

-- ---- limits

or_first : (a b : Option ℕ) → option_or a b ≡ None → a ≡ None
or_first None b e = refl
or_first (Some x) b e = absurd cc

or_second : (a b : Option ℕ) → option_or a b ≡ None → b ≡ None
or_second None b e = e
or_second (Some x) b e = absurd cc

not_over : (depth line : ℕ) → over_64 depth line ≡ None → depth ≤ 64
not_over depth line e = by_test (nat_lt 64 depth) refl e
  where
    by_test : (t : Bool) → nat_lt 64 depth ≡ t → (if t then Some line else None) ≡ None → depth ≤ 64
    by_test true is f = absurd cc
    by_test false is f = grind (arith, nat_tests)

not_behind : (before line : ℕ) → behind_64 before line ≡ None → before ≤ 64 → before < 64
not_behind before line e le = by_test (nat_eq before 64) refl e
  where
    by_test : (t : Bool) → nat_eq before 64 ≡ t → (if t then Some line else None) ≡ None → before < 64
    by_test true is f = absurd cc
    by_test false is f = grind (arith, nat_tests)

few_options : (os : T.Options) (before : ℕ) → before ≤ 64 → crowd_options before os ≡ None → before + option_count os ≤ 64
few_options NoOptions before le e = omega arith
few_options (AndOption n body os) before le e =
    let lt = not_behind before n.text.line (or_first (behind_64 before n.text.line) (option_or (crowd_in body) (crowd_options (before + 1) os)) e) le in
    let rest = or_second (crowd_in body) (crowd_options (before + 1) os) (or_second (behind_64 before n.text.line) (option_or (crowd_in body) (crowd_options (before + 1) os)) e) in
    omega (arith, few_options os (before + 1) (omega (arith, lt)) rest)

module _ (terms : Terms) (few : Each (λ (s : Signature). length s.params ≤ 16) terms.signatures) where
  abbrev its_kind : Expr → Option Kind
  its_kind = kind_of terms.signatures (variables_in terms.entries) (kinds_in terms.entries)

  light_need : (e : Expr) (k : Kind) → its_kind e ≡ Some k → LightExpr e → need e ≤ 1088
  light_need e k is light = omega (arith, need_bound terms.signatures (variables_in terms.entries) (kinds_in terms.entries) few e k is, light)

  some_need : (e : Expr) → is_some (its_kind e) ≡ true → LightExpr e → need e ≤ 1088
  some_need e fits light = by_kind (its_kind e) refl fits
    where
      by_kind : (o : Option Kind) → its_kind e ≡ o → is_some o ≡ true → need e ≤ 1088
      by_kind None is f = absurd cc
      by_kind (Some k) is f = light_need e k is light

  light_needs : (es : List Expr) → list_all (λ e. is_some (its_kind e)) es ≡ true → LightAll es → needs_of es ≤ 1105
  light_needs es fits light = omega (arith, needs_bound terms.signatures (variables_in terms.entries) (kinds_in terms.entries) few es fits light.1, light.0)

  set_kind : (op : Option BinaryOp) (name : List ℕ) (e : Expr) (k : Kind) → kind_set terms.signatures (variables_in terms.entries) (kinds_in terms.entries) name op e ≡ Some k → is_some (its_kind e) ≡ true
  set_kind None name e k is = ap is_some is
  set_kind (Some op) name e k is = by_kind (kind_of_name terms name) (its_kind e) is
    where
      by_kind : (a o : Option Kind) → joined op a o ≡ Some k → is_some o ≡ true
      by_kind None o f = absurd cc
      by_kind (Some a) None f = absurd cc
      by_kind (Some a) (Some b) f = refl

  set_room : (op : Option BinaryOp) (e : Expr) → need e ≤ 1088 → set_need op e ≤ 1089
  set_room None e h = omega (arith, h)
  set_room (Some op) e h = omega (arith, h)

  simple_room : (s : Simple) → LightSimple s → FitsSimple terms.signatures terms.entries s → simple_need s ≤ 1105
  simple_room (simple.Line text) light fits = light_needs text.holes fits light
  simple_room (simple.Command text) light fits = light_needs text.holes fits light
  simple_room (simple.Set head name op e) light fits =
      let one = eq_kinds (kind_of_name terms name) (kind_set terms.signatures (variables_in terms.entries) (kinds_in terms.entries) name op e) fits in
      omega (arith, set_room op e (some_need e (set_kind op name e one.kind one.second) light))
  simple_room (simple.Declare head name v k) light fits = omega arith
  simple_room (simple.Jump head title) light fits = omega arith
  simple_room (simple.JumpTo head e) light fits = omega (arith, light_need e kind.Str (its_kind_only kind.Str (its_kind e) fits) light)
  simple_room (simple.Stop head) light fits = omega arith
  simple_room (simple.Call head e) light fits = omega (arith, some_need e fits light)

  offered_room : (holes : List Expr) (c : Option Expr) → LightAll holes → LightIf c → FitsLine terms.signatures terms.entries (offer_asks holes c) → offered_need holes c ≤ 1105
  offered_room holes None light asked fits = light_needs holes fits light
  offered_room holes (Some c) light asked fits =
      let parts = and_parts (list_all (λ e. is_some (its_kind e)) holes) _ fits in
      omega (arith, light_needs holes parts.0 light, light_need c kind.Truth (its_kind_only kind.Truth (its_kind c) parts.1) asked, light.0)

  mutual
    pub room_all : (b : T.Stmts) (depth level : ℕ) → depth ≤ level → Light b → FitsAll terms.signatures terms.entries b → deep_in level b ≡ None → crowd_in b ≡ None → HasRoom depth b
    room_all Nil depth level le light fits deep crowd = tt
    room_all (Cons s b) depth level le light fits deep crowd = (
      room_one s depth level le light.0 fits.0 (or_first (deep_one level s) (deep_in level b) deep) (or_first (crowd_one s) (crowd_in b) crowd),
      room_all b depth level le light.1 fits.1 (or_second (deep_one level s) (deep_in level b) deep) (or_second (crowd_one s) (crowd_in b) crowd),
    )

    room_one : (s : T.Stmt) (depth level : ℕ) → depth ≤ level → LightOne s → FitsOne terms.signatures terms.entries s → deep_one level s ≡ None → crowd_one s ≡ None → HasRoomOne depth s
    room_one (Leaf s) depth level le light fits deep crowd =
        let shallow = not_over level _ deep in
        (omega (arith, shallow, le), omega (arith, shallow, le, simple_room s light fits))
    room_one (Group os) depth level le light fits deep crowd =
        (light.0, omega (arith, few_options os 0 (omega arith) crowd), room_options os depth level 0 le light.1 fits deep crowd)
    room_one (Choice cs last e) depth level le light fits deep crowd =
        let rest = or_second (deep_clauses level cs) (option_or (deep_last level last) (over_64 level e.line)) deep in (
          room_clauses cs depth level le light.0 fits.0 (or_first (deep_clauses level cs) (option_or (deep_last level last) (over_64 level e.line)) deep) (or_first (crowd_clauses cs) (crowd_last last) crowd),
          room_last last depth level le light.1 fits.1 (or_first (deep_last level last) (over_64 level e.line) rest) (or_second (crowd_clauses cs) (crowd_last last) crowd),
        )

    room_options : (os : T.Options) (depth level before : ℕ) → depth ≤ level → LightOptions os → FitsOptions terms.signatures terms.entries os → deep_options level os ≡ None → crowd_options before os ≡ None → HasRoomOptions depth os
    room_options NoOptions depth level before le light fits deep crowd = tt
    room_options (AndOption n body os) depth level before le light fits deep crowd =
        let shallow = not_over level n.text.line (or_first (over_64 level n.text.line) (option_or (deep_in (level + 1) body) (deep_options level os)) deep) in
        let deeper = or_second (over_64 level n.text.line) (option_or (deep_in (level + 1) body) (deep_options level os)) deep in
        let more = or_second (behind_64 before n.text.line) (option_or (crowd_in body) (crowd_options (before + 1) os)) crowd in
        let own = offered_room n.text.holes n.condition light.0.0 light.0.1 fits.0 in (
          omega (arith, own, shallow, le),
          room_all body (suc depth) (level + 1) (omega (arith, le)) light.1 fits.1 (or_first (deep_in (level + 1) body) (deep_options level os) deeper) (or_first (crowd_in body) (crowd_options (before + 1) os) more),
          room_options os depth level (before + 1) le light.2 fits.2 (or_second (deep_in (level + 1) body) (deep_options level os) deeper) (or_second (crowd_in body) (crowd_options (before + 1) os) more),
        )

    room_clauses : (cs : T.Clauses) (depth level : ℕ) → depth ≤ level → LightClauses cs → FitsClauses terms.signatures terms.entries cs → deep_clauses level cs ≡ None → crowd_clauses cs ≡ None → HasRoomClauses depth cs
    room_clauses NoClauses depth level le light fits deep crowd = tt
    room_clauses (AndClause n body cs) depth level le light fits deep crowd =
        let shallow = not_over level n.head.line (or_first (over_64 level n.head.line) (option_or (deep_in (level + 1) body) (deep_clauses level cs)) deep) in
        let deeper = or_second (over_64 level n.head.line) (option_or (deep_in (level + 1) body) (deep_clauses level cs)) deep in
        let own = light_need n.condition kind.Truth (its_kind_only kind.Truth (its_kind n.condition) fits.0) light.0 in (
          omega (arith, own, shallow, le),
          room_all body depth (level + 1) (omega (arith, le)) light.1 fits.1 (or_first (deep_in (level + 1) body) (deep_clauses level cs) deeper) (or_first (crowd_in body) (crowd_clauses cs) crowd),
          room_clauses cs depth level le light.2 fits.2 (or_second (deep_in (level + 1) body) (deep_clauses level cs) deeper) (or_second (crowd_in body) (crowd_clauses cs) crowd),
        )

    room_last : (last : T.Last) (depth level : ℕ) → depth ≤ level → LightLast last → FitsLast terms.signatures terms.entries last → deep_last level last ≡ None → crowd_last last ≡ None → HasRoomLast depth last
    room_last NoElse depth level le light fits deep crowd = tt
    room_last (ElseOf n body) depth level le light fits deep crowd =
        room_all body depth (level + 1) (omega (arith, le)) light fits (or_second (over_64 level n.line) (deep_in (level + 1) body) deep) crowd
