mod SimpleLaws
mod CallLaws
