mod FileLaws
mod SectionLaws
