-- A line's columns as they are written.
-- Assumes nothing.
use Rattle.std.specs.Prelude.{◌≡◌, ℕ, ◌+◌, ◌-◌, ◌≤◌, List, length, take, replicate}
use mathlib.Core.Path.{sym, ap, ◌∙◌}
use Rattle.form.specs.Form.{bytes, number}
use Rattle.lines.specs.declared.lines.Writer.{Writer}
use Rattle.lines.specs.Writing.{Put}
use Rattle.lines.proofs.Written.{put_then, put_as}
use Rattle.page_lines.specs.Line.{right, place_by, shift_by}
use Rattle.page_lines.proofs.Texts.{take-spaces, right_is, place_none, place-some, shift-unexpected, shift-absent}

module _ {w w' : Writer} where
  -- spaces, cut from eight of them
  pub spaces : (k : ℕ) → k ≤ 8 → Put (take k (replicate 8 32)) w w' → Put (replicate k 32) w w'
  spaces k h p = put_as (take-spaces k 8 h) p

  -- a place
  pub no_place : (place : ℕ) → place ≡ 0 → Put (right (bytes "-")) w w' → Put (right (place_by place)) w w'
  no_place place e p = put_as (ap right (sym (ap place_by e ∙ place_none))) p

  pub place_from : (place k : ℕ) → place ≡ k + 1 → Put (right (number k)) w w' → Put (right (place_by place)) w w'
  place_from place k e p = put_as (ap right (sym (place-some place k e))) p

  -- a shift
  pub unexpected : (expected actual : ℕ) → expected ≡ 0 → Put (right (bytes "-")) w w' → Put (right (shift_by expected actual)) w w'
  unexpected expected actual e p = put_as (ap right (sym (shift-unexpected expected actual e))) p

  pub not_met : (expected actual : ℕ) → actual ≡ 0 → Put (right (bytes "-")) w w' → Put (right (shift_by expected actual)) w w'
  not_met expected actual e p = put_as (ap right (sym (shift-absent expected actual e))) p

-- spaces and what is behind them make a column
pub column : {w w₁ w₂ : Writer} (text : List ℕ) (k : ℕ) → k ≡ 8 - length text → Put (replicate k 32) w w₁ → Put text w₁ w₂ → Put (right text) w w₂
column text k e p q = put_as (right_is text k e) (put_then p q)
