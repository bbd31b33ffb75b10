use Rattle.std.proofs.Common.{inr, refl, List, ℕ, Ok}
use Rattle.swf_meaning.specs.declared.label.Label.{Label}
use Rattle.swf_meaning.specs.declared.label.Label.TheVariants.{Start}
use Rattle.swf_value.specs.Value.{Value}
use Rattle.swf_record.specs.Decodes.{Reading, ◌>>=◌, text_in, value_in, start_in}
use Rattle.swf_record.proofs.Read.{passed_on, read, then_tells}
use Rattle.swf_record.proofs.decode.read_start.Goals as goal

abbrev with_input : List ℕ → List ℕ → List ℕ → List ℕ → Value × List ℕ → Reading Label
with_input id namespace name version input = Ok (Start id (record { namespace = namespace; name = name; version = version }) input.0, input.1)

abbrev with_version : List ℕ → List ℕ → List ℕ → List ℕ × List ℕ → Reading Label
with_version id namespace name version = value_in 64 version.1 >>= with_input id namespace name version.0

abbrev with_name : List ℕ → List ℕ → List ℕ × List ℕ → Reading Label
with_name id namespace name = text_in name.1 >>= with_version id namespace name.0

abbrev with_namespace : List ℕ → List ℕ × List ℕ → Reading Label
with_namespace id namespace = text_in namespace.1 >>= with_name id namespace.0

abbrev with_id : List ℕ × List ℕ → Reading Label
with_id id = text_in id.1 >>= with_namespace id.0

pub returns-in_err-id : goal.returns-in_err-id
unfolding start_in
returns-in_err-id c =
    let at_id = c.args.reader.now.rest.now in
    let result = c.from_residual.result in
    let left = c.text.new.self.rest.now in
    passed_on (λ x. x) (λ l. l) result c.in_err-id.field-0.0 left (text_in at_id) with_id c.from_residual.ensures.1 c.in_err-id.ensures

pub returns-in_err-namespace : goal.returns-in_err-namespace
unfolding start_in
returns-in_err-namespace c =
    let at_id = c.args.reader.now.rest.now in
    let id = c.in_ok-id.id in
    let at_namespace = c.text.new.self.rest.now in
    let result = c.from_residual-in_err-namespace.result in
    let left = c.text-2.new.self.rest.now in
    then_tells (λ l. l) result left (text_in at_id) (id, at_namespace) with_id (read (λ x. x) id at_namespace (text_in at_id) c.in_ok-id.ensures)
    (passed_on (λ x. x) (λ l. l) result c.in_err-namespace.field-0.0 left (text_in at_namespace) (with_namespace id) c.from_residual-in_err-namespace.ensures.1 c.in_err-namespace.ensures)

pub returns-in_err-name : goal.returns-in_err-name
unfolding start_in
returns-in_err-name c =
    let at_id = c.args.reader.now.rest.now in
    let id = c.in_ok-id.id in
    let at_namespace = c.text.new.self.rest.now in
    let namespace = c.in_ok-namespace.namespace in
    let at_name = c.text-2.new.self.rest.now in
    let result = c.from_residual-in_err-name.result in
    let left = c.text-3.new.self.rest.now in
    then_tells (λ l. l) result left (text_in at_id) (id, at_namespace) with_id (read (λ x. x) id at_namespace (text_in at_id) c.in_ok-id.ensures)
    (then_tells (λ l. l) result left (text_in at_namespace) (namespace, at_name) (with_namespace id) (read (λ x. x) namespace at_name (text_in at_namespace) c.in_ok-namespace.ensures)
    (passed_on (λ x. x) (λ l. l) result c.in_err-name.field-0.0 left (text_in at_name) (with_name id namespace) c.from_residual-in_err-name.ensures.1 c.in_err-name.ensures))

pub returns-in_err-version : goal.returns-in_err-version
unfolding start_in
returns-in_err-version c =
    let at_id = c.args.reader.now.rest.now in
    let id = c.in_ok-id.id in
    let at_namespace = c.text.new.self.rest.now in
    let namespace = c.in_ok-namespace.namespace in
    let at_name = c.text-2.new.self.rest.now in
    let name = c.in_ok-name.name in
    let at_version = c.text-3.new.self.rest.now in
    let result = c.from_residual-in_err-version.result in
    let left = c.text-4.new.self.rest.now in
    then_tells (λ l. l) result left (text_in at_id) (id, at_namespace) with_id (read (λ x. x) id at_namespace (text_in at_id) c.in_ok-id.ensures)
    (then_tells (λ l. l) result left (text_in at_namespace) (namespace, at_name) (with_namespace id) (read (λ x. x) namespace at_name (text_in at_namespace) c.in_ok-namespace.ensures)
    (then_tells (λ l. l) result left (text_in at_name) (name, at_version) (with_name id namespace) (read (λ x. x) name at_version (text_in at_name) c.in_ok-name.ensures)
    (passed_on (λ x. x) (λ l. l) result c.in_err-version.field-0.0 left (text_in at_version) (with_version id namespace name) c.from_residual-in_err-version.ensures.1 c.in_err-version.ensures)))

pub returns-in_err-input : goal.returns-in_err-input
unfolding start_in
returns-in_err-input c =
    let at_id = c.args.reader.now.rest.now in
    let id = c.in_ok-id.id in
    let at_namespace = c.text.new.self.rest.now in
    let namespace = c.in_ok-namespace.namespace in
    let at_name = c.text-2.new.self.rest.now in
    let name = c.in_ok-name.name in
    let at_version = c.text-3.new.self.rest.now in
    let version = c.in_ok-version.version in
    let at_input = c.text-4.new.self.rest.now in
    let result = c.from_residual-in_err-input.result in
    let left = c.value.new.self.rest.now in
    then_tells (λ l. l) result left (text_in at_id) (id, at_namespace) with_id (read (λ x. x) id at_namespace (text_in at_id) c.in_ok-id.ensures)
    (then_tells (λ l. l) result left (text_in at_namespace) (namespace, at_name) (with_namespace id) (read (λ x. x) namespace at_name (text_in at_namespace) c.in_ok-namespace.ensures)
    (then_tells (λ l. l) result left (text_in at_name) (name, at_version) (with_name id namespace) (read (λ x. x) name at_version (text_in at_name) c.in_ok-name.ensures)
    (then_tells (λ l. l) result left (text_in at_version) (version, at_input) (with_version id namespace name) (read (λ x. x) version at_input (text_in at_version) c.in_ok-version.ensures)
    (passed_on (λ x. x) (λ l. l) result c.in_err-input.field-0.0 left (value_in 64 at_input) (with_input id namespace name version) c.from_residual-in_err-input.ensures.1 c.in_err-input.ensures))))

pub returns : goal.returns
unfolding start_in
returns c =
    let at_id = c.args.reader.now.rest.now in
    let id = c.in_ok-id.id in
    let at_namespace = c.text.new.self.rest.now in
    let namespace = c.in_ok-namespace.namespace in
    let at_name = c.text-2.new.self.rest.now in
    let name = c.in_ok-name.name in
    let at_version = c.text-3.new.self.rest.now in
    let version = c.in_ok-version.version in
    let at_input = c.text-4.new.self.rest.now in
    let input = c.in_ok-input.input in
    let behind = c.value.new.self.rest.now in
    let result = Ok (Start id (record { namespace = namespace; name = name; version = version }) input) in
    then_tells (λ l. l) result behind (text_in at_id) (id, at_namespace) with_id (read (λ x. x) id at_namespace (text_in at_id) c.in_ok-id.ensures)
    (then_tells (λ l. l) result behind (text_in at_namespace) (namespace, at_name) (with_namespace id) (read (λ x. x) namespace at_name (text_in at_namespace) c.in_ok-namespace.ensures)
    (then_tells (λ l. l) result behind (text_in at_name) (name, at_version) (with_name id namespace) (read (λ x. x) name at_version (text_in at_name) c.in_ok-name.ensures)
    (then_tells (λ l. l) result behind (text_in at_version) (version, at_input) (with_version id namespace name) (read (λ x. x) version at_input (text_in at_version) c.in_ok-version.ensures)
    (then_tells (λ l. l) result behind (value_in 64 at_input) (input, behind) (with_input id namespace name version) (read (λ x. x) input behind (value_in 64 at_input) c.in_ok-input.ensures)
    (inr refl)))))
