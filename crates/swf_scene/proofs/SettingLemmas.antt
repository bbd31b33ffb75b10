-- When two settings are one.
use Rattle.std.proofs.Common.{◌≡◌}
use Rattle.std.specs.Coded.{Coded-set}
use mathlib.Core.HLevel.{is_prop→PathP}
use Rattle.swf_value.specs.ValueCode.{value_code}
use Rattle.swf_meaning.specs.Line.{workflow_value}
use Rattle.swf_scene.specs.declared.setting.Setting.{Setting}

-- all that a setting holds is data
pub setting_is : (a b : Setting) → a.document ≡ b.document → a.id ≡ b.id → a.started ≡ b.started → a.input ≡ b.input → a.workflow ≡ b.workflow → a.context ≡ b.context → a.number ≡ b.number → a ≡ b
setting_is a b d i s n w c m = λ k. record {
  document = d k;
  id = i k;
  started = s k;
  input = n k;
  workflow = w k;
  context = c k;
  number = m k;
  told = is_prop→PathP (λ j. w j ≡ workflow_value (i j) (s j) (n j)) (λ j. Coded-set value_code (w j) (workflow_value (i j) (s j) (n j))) a.told b.told k;
}
