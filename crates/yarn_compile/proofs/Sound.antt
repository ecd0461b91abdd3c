-- Statements whose lines fit a typing, and whose commands have texts that are templates.
use Rattle.std.specs.Prelude.{⊤}
use Rattle.yarn_blocks.specs.declared.entry.Simple.{Simple}
use Rattle.yarn_blocks.specs.Tree.{Stmt, Leaf, Group, Choice, Stmts, Nil, Cons, Options, NoOptions, AndOption, Clauses, NoClauses, AndClause, Last, NoElse, ElseOf}
use Rattle.yarn_types.specs.Units.{Condition}
use Rattle.yarn_compile.specs.Code.{Terms}
use Rattle.yarn_kinds.proofs.Fitting as fitting
use Rattle.yarn_kinds.proofs.Fitting.{FitsLine, offer_asks}
use Rattle.yarn_compile.proofs.Texts.{SimpleText, AreTexts, TextsOfOne, TextsOfOptions, TextsOfClauses, TextsOfLast}

module _ (terms : Terms) where
  abbrev pub FitsSimple : Simple → Type 0
  FitsSimple s = fitting.FitsSimple terms.signatures terms.entries s × SimpleText s

  abbrev mutual
    pub FitsAll : Stmts → Type 0
    FitsAll Nil = ⊤
    FitsAll (Cons s b) = FitsOne s × FitsAll b

    pub FitsOne : Stmt → Type 0
    FitsOne (Leaf s) = FitsSimple s
    FitsOne (Group os) = FitsOptions os
    FitsOne (Choice cs last e) = FitsClauses cs × FitsLast last

    pub FitsOptions : Options → Type 0
    FitsOptions NoOptions = ⊤
    FitsOptions (AndOption n body os) = FitsLine terms.signatures terms.entries (offer_asks n.text.holes n.condition) × FitsAll body × FitsOptions os

    pub FitsClauses : Clauses → Type 0
    FitsClauses NoClauses = ⊤
    FitsClauses (AndClause n body cs) = FitsLine terms.signatures terms.entries (Condition n.condition) × FitsAll body × FitsClauses cs

    pub FitsLast : Last → Type 0
    FitsLast NoElse = ⊤
    FitsLast (ElseOf head body) = FitsAll body

  mutual
    pub fit_all : (b : Stmts) → fitting.FitsAll terms.signatures terms.entries b → AreTexts b → FitsAll b
    fit_all Nil fit texts = tt
    fit_all (Cons s b) fit texts = (fit_one s fit.0 texts.0, fit_all b fit.1 texts.1)

    fit_one : (s : Stmt) → fitting.FitsOne terms.signatures terms.entries s → TextsOfOne s → FitsOne s
    fit_one (Leaf s) fit texts = (fit, texts)
    fit_one (Group os) fit texts = fit_options os fit texts
    fit_one (Choice cs last e) fit texts = (fit_clauses cs fit.0 texts.0, fit_last last fit.1 texts.1)

    fit_options : (os : Options) → fitting.FitsOptions terms.signatures terms.entries os → TextsOfOptions os → FitsOptions os
    fit_options NoOptions fit texts = tt
    fit_options (AndOption n body os) fit texts = (fit.0, fit_all body fit.1 texts.1, fit_options os fit.2 texts.2)

    fit_clauses : (cs : Clauses) → fitting.FitsClauses terms.signatures terms.entries cs → TextsOfClauses cs → FitsClauses cs
    fit_clauses NoClauses fit texts = tt
    fit_clauses (AndClause n body cs) fit texts = (fit.0, fit_all body fit.1 texts.0, fit_clauses cs fit.2 texts.1)

    fit_last : (last : Last) → fitting.FitsLast terms.signatures terms.entries last → TextsOfLast last → FitsLast last
    fit_last NoElse fit texts = tt
    fit_last (ElseOf head body) fit texts = fit_all body fit texts
