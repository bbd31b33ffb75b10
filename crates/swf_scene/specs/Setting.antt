-- What a setting and a scene stand for: what a step goes by, and the instance itself.
use Rattle.std.specs.Prelude.{[]}
use Rattle.swf_meaning.specs.Line.{Line, Site}
use Rattle.swf_meaning.specs.Node.{Node}
use Rattle.swf_meaning.specs.World.{Instance}
use Rattle.swf_scene.specs.declared.scene.Scene.{Scene}
use Rattle.swf_scene.specs.declared.setting.Setting.{Setting}

-- what every step of an instance goes by, outside all tasks
abbrev pub setting_line : Setting → Line
setting_line s = record { document = s.document; id = s.id; started = s.started; input = s.input; context = s.context; around = []; depth = 0 }

abbrev pub line_of : Scene → Line
line_of s = record (setting_line s.setting) { around = s.around.items; depth = s.depth }

-- and what some go by besides
abbrev pub site_of : Scene → Site
site_of s = record { number = s.setting.number; branches = s.branches; now = s.site.now; documents = s.site.documents.now.documents }

-- the same without the variables around
abbrev pub alone : Line → Line
alone l = record l { around = [] }

-- the instance that a setting and a tree stand for
abbrev pub instance_of : Setting → Node → Instance
instance_of s n =
    record { id = s.id; document = s.document; input = s.input; started = s.started; context = s.context; node = n; number = s.number }
