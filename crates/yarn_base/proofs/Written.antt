-- How bytes that are written in parts add up.
use Rattle.std.proofs.Common.{subst, arith, IfSome, ◌≡◌, ℕ, ◌+◌, ◌-◌, ◌≤◌, length, List, [], ◌++◌, take, drop, Option, Some, None, refl, sym, ap, ◌∙◌, append_assoc, append-nil, take-append-drop}
use Rattle.std.proofs.lemmas.List.{take_rest}
use Rattle.std.proofs.lemmas.Simd.{chunk-drop}
use Rattle.std.specs.Io.KnownBytes.{append_known}
use Rattle.yarn_base.specs.Outside.{WritesPart}

-- all but the rest is written, and the count hasn't fallen
pub record IsWritten (old new : Option (List ℕ)) (before now : ℕ) (all rest : List ℕ) : Type 0 where
  pub taken : List ℕ
  pub split : taken ++ rest ≡ all
  pub after : new ≡ append_known old taken
  pub later : before ≤ now

pub append_known-nil : (known : Option (List ℕ)) → append_known known [] ≡ known
append_known-nil None = refl
append_known-nil (Some xs) = ap Some (append-nil xs)

pub append_known-append : (known : Option (List ℕ)) (xs ys : List ℕ) →
    append_known (append_known known xs) ys ≡ append_known known (xs ++ ys)
append_known-append None xs ys = refl
append_known-append (Some zs) xs ys = ap Some (append_assoc zs xs ys)

pub moves_front : (all done rest : List ℕ) (n : ℕ) → all ≡ done ++ rest → all ≡ (done ++ take n rest) ++ take (length rest - n) (drop n rest)
moves_front all done rest n e =
    e ∙ ap (λ l. done ++ l) (sym (take-append-drop n rest)) ∙ sym (append_assoc done (take n rest) (drop n rest)) ∙ ap (λ l. (done ++ take n rest) ++ l) (sym (take_rest rest n))

-- what is left after n bytes were taken
pub left_after : (bytes : List ℕ) (at n : ℕ) → Some (drop at bytes) ≡ Some (take n (drop at bytes) ++ drop (at + n) bytes)
left_after bytes at n = ap Some (chunk-drop at n bytes)

-- what was written before, and a part of what follows, is a part of both together
pub WritesPart-after : (old new newer : Option (List ℕ)) (done more : List ℕ) →
    new ≡ append_known old done → WritesPart new newer more → WritesPart old newer (done ++ more)
WritesPart-after old new newer done more e part = record {
  taken = done ++ part.taken;
  rest = part.rest;
  split = append_assoc done part.taken part.rest ∙ ap (λ l. done ++ l) part.split;
  after = part.after ∙ ap (λ known. append_known known part.taken) e ∙ append_known-append old done part.taken;
}

-- a part of the first bytes is a part of all
pub WritesPart-within : (old new : Option (List ℕ)) (first second : List ℕ) →
    WritesPart old new first → WritesPart old new (first ++ second)
WritesPart-within old new first second part = record {
  taken = part.taken;
  rest = part.rest ++ second;
  split = sym (append_assoc part.taken part.rest second) ∙ ap (λ l. l ++ second) part.split;
  after = part.after;
}

pub WritesPart-none : (old : Option (List ℕ)) (bytes : List ℕ) → WritesPart old old bytes
WritesPart-none old bytes = record { taken = []; rest = bytes; split = refl; after = sym (append_known-nil old) }

pub WritesPart-all : (old new : Option (List ℕ)) (bytes : List ℕ) → new ≡ append_known old bytes → WritesPart old new bytes
WritesPart-all old new bytes e = record { taken = bytes; rest = []; split = append-nil bytes; after = e }

pub ruleset parts = (append_known-append, append_known-nil, WritesPart-after, WritesPart-within, WritesPart-none, WritesPart-all)

-- one more piece of the rest is written
pub IsWritten-step : (old new newer : Option (List ℕ)) (before now later : ℕ) (all rest piece more : List ℕ) →
    IsWritten old new before now all rest → rest ≡ piece ++ more → newer ≡ append_known new piece → now ≤ later →
    IsWritten old newer before later all more
IsWritten-step old new newer before now later all rest piece more so_far e after le = record {
  taken = so_far.taken ++ piece;
  split = append_assoc so_far.taken piece more ∙ ap (λ l. so_far.taken ++ l) (sym e) ∙ so_far.split;
  after = after ∙ ap (λ known. append_known known piece) so_far.after ∙ append_known-append old so_far.taken piece;
  later = omega (arith, so_far.later);
}

-- the writing stops within a piece of the rest
pub IsWritten-stops : (old new newer : Option (List ℕ)) (before now : ℕ) (all rest piece more : List ℕ) →
    IsWritten old new before now all rest → rest ≡ piece ++ more → WritesPart new newer piece → WritesPart old newer all
IsWritten-stops old new newer before now all rest piece more so_far e part =
    let within = WritesPart-after old new newer so_far.taken (piece ++ more) so_far.after (WritesPart-within new newer piece more part) in
    subst (WritesPart old newer) (ap (λ l. so_far.taken ++ l) (sym e) ∙ so_far.split) within

pub IfSome-always : {X : Type 0} (o : Option X) (P : X → Type 0) → ((x : X) → P x) → IfSome o P
IfSome-always None P h = tt
IfSome-always (Some x) P h = h x
